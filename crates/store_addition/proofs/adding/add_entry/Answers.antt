use Rattle.archive_text.specs.EntryViews.{entry_of}
use Rattle.archive_pages.specs.Paged.{entries_in}
use Rattle.durable_store.proofs.Readable.{entry_fits, entry_formed, too_long}
use Rattle.durable_store.proofs.Recovered.{entry_added}
use Rattle.store_addition.proofs.adding.add_entry.Goals as goal

pub unreachable-requires : goal.unreachable-requires
unreachable-requires c = c.in_default.ensures.none (entry_formed (entry_of c.args.entry.now) c.requires.entry)

pub unreachable-requires-in-Err-TooLong : goal.unreachable-requires-in-Err-TooLong
unreachable-requires-in-Err-TooLong c =
    entry_fits (entry_of c.args.entry.now) c.requires.entry
    (c.in-Err-TooLong.ensures.long (too_long c.in-Err-TooLong.field-0-is) c.args.entry.now.octets.now c.in-Ok.ensures.whole)
    c.requires.fits

pub returns-in-Ok-add_view-clause-adds : goal.returns-in-Ok-add_view-clause-adds
returns-in-Ok-add_view-clause-adds c =
    let added = c.in-Ok-add_view.ensures.ok c.args.entry.now.octets.now c.in-Ok.ensures.whole in
    entry_added (entry_of c.args.entry.now) added.0 (entries_in c.args.piece.now) (entries_in c.add_view.new.self) _
    c.requires.entry added.1 added.2
