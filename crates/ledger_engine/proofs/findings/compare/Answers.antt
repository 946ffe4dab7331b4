use Rattle.std.proofs.Common.{List, ℕ, Bor, ap, map, refl, ◌∙◌}
use Rattle.ledger_engine.proofs.Comparing.{compared}
use Rattle.ledger_engine.proofs.findings.compare.Goals as goal

pub returns-clause-compared : goal.returns-clause-compared
returns-clause-compared c =
    compared c.args.names.now c.deref.result.now c.args.standing c.missing-absent.result _
    (ap (map (λ (b : Bor (List ℕ)). b.now)) c.deref.ensures.value ∙ c.in_ok-octets.ensures)
    c.missing-absent.ensures.there c.missing-absent.ensures.missing refl c.in_ok-missing.ensures c.in_ok-unlisted.ensures
    c.in_ok-foreign.ensures
