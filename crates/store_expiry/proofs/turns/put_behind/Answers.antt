use Rattle.std.proofs.Common.{List, ℕ, ◌∷◌, ◌++◌, [], ap, sym, take, ◌∙◌, append-nil, append_assoc}
use Rattle.std.proofs.lemmas.List.{take_all, take_more}
use Rattle.store_expiry.proofs.turns.put_behind.Goals as goal

pub names-init : goal.names-init
names-init c = sym (append-nil c.args.front.now.items)

pub names-preserved : goal.names-preserved
names-preserved c =
    let first = take c.names.name-index c.args.names.now in
    let front = c.args.front.now.items in
    let more = take_more c.args.names.now c.names.name-index c.name-item.result c.names-test.true
    ∙ ap (λ (n : List ℕ). first ++ n ∷ []) (sym c.name-item.is) in
    c.in_ok-push.ensures.items
    ∙ ap (λ (l : List (List ℕ)). l ++ c.in_ok-copy.field-0 ∷ []) c.names.invariant
    ∙ ap (λ (n : List ℕ). (front ++ first) ++ n ∷ []) c.in_ok-copy.ensures
    ∙ append_assoc front first (c.name-item.result ∷ [])
    ∙ ap (λ (l : List (List ℕ)). front ++ l) (sym more)

pub returns : goal.returns
returns c =
    c.names.invariant
    ∙ ap (λ (l : List (List ℕ)). c.args.front.now.items ++ l)
    (take_all c.names.name-index c.args.names.now c.names-test.false)
