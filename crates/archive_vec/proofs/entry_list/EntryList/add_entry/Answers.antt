use Rattle.std.proofs.Common.{refl}
use Rattle.archive_vec.proofs.Adding.{adds_held, adds_new}
use Rattle.archive_vec.proofs.entry_list.EntryList.add_entry.Goals as goal

pub returns-in_default-clause-ok : goal.returns-in_default-clause-ok
returns-in_default-clause-ok c = adds_held _ _ _ _ c.in_default.ensures refl

pub returns-in-Ok-clause-ok : goal.returns-in-Ok-clause-ok
returns-in-Ok-clause-ok c = adds_new _ _ _ c.in-Err.index c.in-Err.ensures c.in-Ok.ensures.ok
