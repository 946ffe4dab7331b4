use Rattle.std.proofs.Common.{◌≡◌, ◌+◌, ◌++◌, ◌∷◌, [], List, ℕ, Bor, ap, sym, take, map, ◌∙◌}
use Rattle.std.proofs.lemmas.List.{map-append, take_all, take_more}
use Rattle.ledger_engine.proofs.findings.octets_of.Goals as goal

pub names-preserved : goal.names-preserved
names-preserved c =
    let first : List (List ℕ) = take c.names.name-index c.args.names.now in
    let more : take (c.names.name-index + 1) c.args.names.now ≡ first ++ c.name-item.result ∷ [] =
    take_more c.args.names.now c.names.name-index c.name-item.result c.names-test.true
    ∙ ap (λ (n : List ℕ). first ++ n ∷ []) (sym c.name-item.is) in
    ap (map (λ (b : Bor (List ℕ)). b.now)) c.in_ok-push.ensures.items
    ∙ map-append (λ (b : Bor (List ℕ)). b.now) c.names.octets.items (c.as_octets.result ∷ [])
    ∙ ap (λ (l : List (List ℕ)). l ++ c.as_octets.result.now ∷ []) c.names.invariant
    ∙ ap (λ (n : List ℕ). first ++ n ∷ []) c.as_octets.ensures.value ∙ sym more

pub returns : goal.returns
returns c = c.names.invariant ∙ take_all c.names.name-index c.args.names.now c.names-test.false
