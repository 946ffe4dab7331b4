use Rattle.std.proofs.Common.{rules}
use Rattle.std.proofs.lemmas.Fn.{always_returns_same}
use Rattle.std.proofs.lemmas.List.Sorted.{Contains-permutation, IsPermutation-sym}
use Rattle.store_reading.specs.Order.{comes_before, period_of}
use Rattle.store_reading.proofs.NameOrders.{orders}
use Rattle.store_reading.proofs.name_order.Names.new.Goals as goal

-- src/name_order.rt:100:9
pub invariant_of-result : goal.invariant_of-result
invariant_of-result c =
    c.in_ok-sort_by.ensures.sorted comes_before (orders period_of)
    (always_returns_same _ _ _ (λ a r q k. search rules))

pub returns : goal.returns
returns c name =
    let listed = c.args.names.items in
    let sorted = c.sort_by.new.self.items in (
      Contains-permutation sorted listed name (IsPermutation-sym listed sorted c.sort_by.ensures.permutation),
      Contains-permutation listed sorted name c.sort_by.ensures.permutation,
    )
