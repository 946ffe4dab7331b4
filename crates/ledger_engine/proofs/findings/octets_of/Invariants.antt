use Rattle.std.proofs.Common.{◌≡◌, map, take}
use Rattle.ledger_engine.proofs.findings.octets_of.Given as goal

abbrev pub invariant-names : goal.invariant-names
invariant-names l = map (λ b. b.now) l.octets.items ≡ take l.name-index l.names
