use Rattle.std.proofs.Common.{take}
use Rattle.ledger_engine.specs.Known.{AreThose, IsOfStore}
use Rattle.ledger_engine.proofs.findings.foreign_of.Given as goal

abbrev pub invariant-names : goal.invariant-names
invariant-names l = AreThose (λ name. ¬ (IsOfStore name)) (take l.name-index l.names) l.foreign.items
