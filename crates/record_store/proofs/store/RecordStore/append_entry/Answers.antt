use Rattle.std.proofs.Common.{refl}
use Rattle.archive_text.specs.EntryViews.{entry_of}
use Rattle.record_store.proofs.Standing.{appended_stands}
use Rattle.record_store.proofs.store.RecordStore.append_entry.Goals as goal

pub returns-in-Ok-clause-ok : goal.returns-in-Ok-clause-ok
returns-in-Ok-clause-ok c state sets stands is =
    appended_stands c.args.self.now _ state sets stands refl refl refl (entry_of c.args.entry.now) is
    c.if-entry-gt-ENTRY_MAX.false c.in-Ok.ensures.ok
