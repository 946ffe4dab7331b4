use Rattle.std.proofs.Common.{refl}
use Rattle.archive_text.specs.EntryViews.{entry_of}
use Rattle.archive_pages.specs.Paged.{entries_in}
use Rattle.durable_store.proofs.Recovered.{entry_added}
use Rattle.durable_store.proofs.Readable.{entry_fits, entry_formed, too_long}
use Rattle.durable_store.proofs.recovery.add_entry.Goals as goal

pub returns-in-Ok-add_view-clause-adds : goal.returns-in-Ok-add_view-clause-adds
returns-in-Ok-add_view-clause-adds c =
    let added = c.in-Ok-add_view.ensures.ok c.args.entry.now.octets.now c.in-Ok.ensures.whole in
    entry_added (entry_of c.args.entry.now) added.0 (entries_in c.args.set.now) (entries_in c.add_view.new.self) _
    c.requires added.1 added.2

pub returns-in_default-clause-fault : goal.returns-in_default-clause-fault
returns-in_default-clause-fault c =
    (refl, λ fits. c.in_default.ensures.none (entry_formed (entry_of c.args.entry.now) c.requires))

pub returns-in-Err-TooLong-clause-fault : goal.returns-in-Err-TooLong-clause-fault
returns-in-Err-TooLong-clause-fault c = (
  refl,
  entry_fits (entry_of c.args.entry.now) c.requires
      (c.in-Err-TooLong.ensures.long (too_long c.in-Err-TooLong.field-0-is) c.args.entry.now.octets.now c.in-Ok.ensures.whole),
)
