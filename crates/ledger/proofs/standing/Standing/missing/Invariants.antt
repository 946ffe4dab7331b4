use Rattle.ledger.proofs.StandingLemmas.{IsStruck}
use Rattle.ledger.proofs.standing.Standing.missing.Given as goal

abbrev pub invariant-loop-name : goal.invariant-loop-name
invariant-loop-name l = IsStruck l.initial.self l.self l.names l.name-index
