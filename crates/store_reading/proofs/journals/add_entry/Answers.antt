use Rattle.archive_text.specs.EntryViews.{entry_of}
use Rattle.store_reading.specs.Sources.{set_entries}
use Rattle.store_reading.proofs.Batched.{entry_added, entry_fits, entry_formed, too_long}
use Rattle.store_reading.proofs.journals.add_entry.Goals as goal

pub returns-in-Ok-add_view-clause-adds : goal.returns-in-Ok-add_view-clause-adds
returns-in-Ok-add_view-clause-adds c =
    let added = c.in-Ok-add_view.ensures.ok c.args.entry.now.octets.now c.in-Ok.ensures.whole in
    entry_added (entry_of c.args.entry.now) added.0 (set_entries c.args.set.now) (set_entries c.add_view.new.self) _
    c.requires.entry added.1 added.2

pub returns-in_default-clause-memory : goal.returns-in_default-clause-memory
returns-in_default-clause-memory c =
    absurd (c.in_default.ensures.none (entry_formed (entry_of c.args.entry.now) c.requires.entry))

pub returns-in-Err-TooLong-clause-memory : goal.returns-in-Err-TooLong-clause-memory
returns-in-Err-TooLong-clause-memory c =
    absurd (entry_fits (entry_of c.args.entry.now) c.requires.entry
    (c.in-Err-TooLong.ensures.long (too_long c.in-Err-TooLong.field-0-is) c.args.entry.now.octets.now c.in-Ok.ensures.whole)
    c.requires.fits)
