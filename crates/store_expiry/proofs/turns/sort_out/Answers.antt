use Rattle.std.proofs.Common.{List, ℕ, [], ◌∷◌, ◌++◌, ap, sym, subst, take, ◌∙◌}
use Rattle.std.proofs.lemmas.List.{take_all, take_more}
use Rattle.std.specs.Prelude.{Contains}
use Rattle.store_expiry.specs.Turns.{ArePartedIn}
use Rattle.store_expiry.proofs.Apart.{next_apart}
use Rattle.store_expiry.proofs.turns.sort_out.Goals as goal

pub names-init : goal.names-init
names-init c apart parted = parted

pub names-preserved : goal.names-preserved
names-preserved c apart parted =
    let first = take c.names.name-index c.args.names.now in
    let more = take_more c.args.names.now c.names.name-index c.name-item.result c.names-test.true
    ∙ ap (λ (n : List ℕ). first ++ n ∷ []) (sym c.name-item.is) in
    let days = c.put.new.days.items in
    let others = c.put.new.others.items in
    subst (λ (l : List (List ℕ)). ArePartedIn l days others) (sym more)
    (subst (λ (n : List ℕ). ArePartedIn (first ++ n ∷ []) days others) c.in_ok-copy.ensures
    (c.in_ok-put.ensures first
    (subst (λ (n : List ℕ). ¬ (Contains first n)) (sym c.in_ok-copy.ensures)
    (next_apart c.args.names.now _ first c.name-item.result more apart))
    (c.names.invariant apart parted)))

pub returns : goal.returns
returns c apart parted =
    subst (λ (l : List (List ℕ)). ArePartedIn l c.names.days.items c.names.others.items)
    (take_all c.names.name-index c.args.names.now c.names-test.false) (c.names.invariant apart parted)
