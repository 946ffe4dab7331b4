use Rattle.std.specs.Prelude.{Contains}
use Rattle.ledger_engine.proofs.Comparing.{AreTaken}
use Rattle.ledger_engine.proofs.findings.missing_of.Given as goal

abbrev pub invariant-listed : goal.invariant-listed
invariant-listed l = AreTaken (Contains l.names) l.yielded l.missing.items
