use Rattle.std.proofs.Common.{take}
use Rattle.archive_text.specs.Entries.{Has}
use Rattle.reconcile.specs.Ranges.{AreThose}
use Rattle.reconcile.proofs.memory.missing.Given as goal

abbrev pub invariant-entries : goal.invariant-entries
invariant-entries l = AreThose (λ x. ¬ (Has l.others x)) (take l.entry-index l.entries) l.those.items
