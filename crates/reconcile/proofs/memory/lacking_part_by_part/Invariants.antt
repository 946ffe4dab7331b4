use Rattle.std.proofs.Common.{take}
use Rattle.archive_text.specs.Entries.{Has}
use Rattle.reconcile.specs.Ranges.{AreThose, Covers}
use Rattle.reconcile.proofs.memory.lacking_part_by_part.Given as goal

abbrev pub invariant-parts : goal.invariant-parts
invariant-parts l = AreThose (λ x. Covers (take l.part-index l.parts) x × ¬ (Has l.others x)) l.places l.those.items
