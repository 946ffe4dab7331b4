use Rattle.std.proofs.Common.{List, ℕ, rules, subst, sym, ◌∙◌, ap, ◌++◌}
use Rattle.std.specs.Prelude.{Contains}
use Rattle.std.proofs.lemmas.Fn.{always_returns_same}
use Rattle.std.proofs.lemmas.List.Sorted.{Contains-permutation}
use Rattle.store_reading.specs.Order.{is_period_below}
use Rattle.store_reading.proofs.NameOrders.{orders}
use Rattle.store_expiry.proofs.turns.in_order.Goals as goal

pub returns-clause-order : goal.returns-clause-order
returns-clause-order c =
    c.in_ok-sort_by.ensures.sorted is_period_below (orders (λ (n : List ℕ). n))
    (always_returns_same _ _ _ (λ a r q k. search rules))

pub returns-clause-all : goal.returns-clause-all
returns-clause-all c name has =
    let copied = c.put_behind.new.front.items in
    Contains-permutation copied c.sort_by.new.self.items name c.sort_by.ensures.permutation
    (subst (λ (l : List (List ℕ)). Contains l name)
    (sym (c.in_ok-put_behind.ensures ∙ ap (λ (l : List (List ℕ)). l ++ c.args.names.now) c.new-sorted.ensures.items)) has)
