use Rattle.std.proofs.Common.{◌≡◌, ◌+◌, ◌++◌, ◌∷◌, [], List, ℕ, ap, sym, subst, take, arith, ◌∙◌}
use Rattle.std.proofs.lemmas.Grind.{common_steps}
use Rattle.std.proofs.lemmas.List.{take_all, take_more}
use Rattle.ledger_engine.specs.Known.{AreThose, IsOfStore}
use Rattle.ledger_engine.proofs.Comparing.{those_with, those_without}
use Rattle.ledger_engine.proofs.findings.foreign_of.Goals as goal
use Rattle.ledger_engine.proofs.findings.foreign_of.Goals.{then-not-is_of_store+in_ok-copy+in_ok-push, else-not-is_of_store}

pub names-preserved : goal.names-preserved
names-preserved c =
    let P = (λ (n : List ℕ). ¬ (IsOfStore n)) in
    let name : List ℕ = c.name-item.result in
    let first : List (List ℕ) = take c.names.name-index c.args.names.now in
    let old : List (List ℕ) = c.names.foreign.items in
    let new : List (List ℕ) = c.if-not-is_of_store.foreign.items in
    let value : c.as_octets.result.now ≡ name = c.as_octets.ensures.value in
    let more : take (c.names.name-index + 1) c.args.names.now ≡ first ++ name ∷ [] =
    take_more c.args.names.now c.names.name-index c.name-item.result c.names-test.true
    ∙ ap (λ (n : List ℕ). first ++ n ∷ []) (sym c.name-item.is) in
    subst (λ (l : List (List ℕ)). AreThose P l new) (sym more)
    (elim c.if-not-is_of_store.branch [
      | then-not-is_of_store+in_ok-copy+in_ok-push w ↦
          let items : new ≡ old ++ name ∷ [] = grind (arith, common_steps) in
          subst (λ (l : List (List ℕ)). AreThose P (first ++ name ∷ []) l) (sym items)
          (those_with P first old name c.names.invariant (λ of'. let yes = c.is_of_store.ensures.1 (subst IsOfStore (sym value) of') in let none = w.if-not-is_of_store.true in absurd (cc (yes, none))))
      | else-not-is_of_store w ↦
          let items : new ≡ old = grind (arith, common_steps) in
          subst (λ (l : List (List ℕ)). AreThose P (first ++ name ∷ []) l) (sym items)
          (those_without P first old name c.names.invariant
          (λ p. p (subst IsOfStore value (c.is_of_store.ensures.0 w.if-not-is_of_store.false))))
    ])

pub returns : goal.returns
returns c =
    subst (λ (l : List (List ℕ)). AreThose (λ (n : List ℕ). ¬ (IsOfStore n)) l c.names.foreign.items)
    (take_all c.names.name-index c.args.names.now c.names-test.false) c.names.invariant
