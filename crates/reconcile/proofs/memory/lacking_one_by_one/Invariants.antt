use Rattle.std.proofs.Common.{take}
use Rattle.archive_text.specs.Entries.{Has}
use Rattle.reconcile.specs.Ranges.{AreThose, Covers}
use Rattle.reconcile.proofs.memory.lacking_one_by_one.Given as goal

abbrev pub invariant-places : goal.invariant-places
invariant-places l = AreThose (λ x. Covers l.parts x × ¬ (Has l.others x)) (take l.place-index l.places) l.those.items
