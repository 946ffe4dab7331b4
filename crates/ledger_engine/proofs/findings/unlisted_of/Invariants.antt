use Rattle.std.proofs.Common.{take}
use Rattle.ledger_engine.specs.Known.{AreThose, IsUnlisted}
use Rattle.ledger_engine.proofs.findings.unlisted_of.Given as goal

abbrev pub invariant-names : goal.invariant-names
invariant-names l = AreThose (IsUnlisted l.standing) (take l.name-index l.names) l.unlisted.items
