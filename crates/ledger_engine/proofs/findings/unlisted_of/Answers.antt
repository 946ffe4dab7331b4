use Rattle.std.proofs.Common.{◌≡◌, ◌+◌, ◌++◌, ◌∷◌, [], List, ℕ, ap, sym, subst, take, arith, ◌∙◌}
use Rattle.std.proofs.lemmas.Grind.{common_steps}
use Rattle.std.proofs.lemmas.List.{take_all, take_more}
use Rattle.ledger_engine.specs.Known.{AreThose, IsUnlisted}
use Rattle.ledger_engine.proofs.Comparing.{those_with, those_without}
use Rattle.ledger_engine.proofs.findings.unlisted_of.Goals as goal
use Rattle.ledger_engine.proofs.findings.unlisted_of.Goals.{then-is_unlisted+in_ok-copy+in_ok-push, else-is_unlisted}

pub names-preserved : goal.names-preserved
names-preserved c =
    let P = IsUnlisted c.args.standing.now in
    let name : List ℕ = c.name-item.result in
    let first : List (List ℕ) = take c.names.name-index c.args.names.now in
    let old : List (List ℕ) = c.names.unlisted.items in
    let new : List (List ℕ) = c.if-is_unlisted.unlisted.items in
    let value : c.as_octets.result.now ≡ name = c.as_octets.ensures.value in
    let more : take (c.names.name-index + 1) c.args.names.now ≡ first ++ name ∷ [] =
    take_more c.args.names.now c.names.name-index c.name-item.result c.names-test.true
    ∙ ap (λ (n : List ℕ). first ++ n ∷ []) (sym c.name-item.is) in
    subst (λ (l : List (List ℕ)). AreThose P l new) (sym more)
    (elim c.if-is_unlisted.branch [
      | then-is_unlisted+in_ok-copy+in_ok-push w ↦
          let items : new ≡ old ++ name ∷ [] = grind (arith, common_steps) in
          subst (λ (l : List (List ℕ)). AreThose P (first ++ name ∷ []) l) (sym items)
          (those_with P first old name c.names.invariant (subst P value (c.is_unlisted.ensures.0 w.if-is_unlisted.true)))
      | else-is_unlisted w ↦
          let items : new ≡ old = grind (arith, common_steps) in
          subst (λ (l : List (List ℕ)). AreThose P (first ++ name ∷ []) l) (sym items)
          (those_without P first old name c.names.invariant
          (λ p. let yes = c.is_unlisted.ensures.1 (subst P (sym value) p) in let false' = w.if-is_unlisted.false in absurd (cc (yes, false'))))
    ])

pub returns : goal.returns
returns c =
    subst (λ (l : List (List ℕ)). AreThose (IsUnlisted c.args.standing.now) l c.names.unlisted.items)
    (take_all c.names.name-index c.args.names.now c.names-test.false) c.names.invariant
