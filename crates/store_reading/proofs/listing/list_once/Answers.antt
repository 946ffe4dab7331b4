use Rattle.std.proofs.lemmas.List.Sorted.{Contains-permutation, IsPermutation-sym}
use Rattle.store_reading.proofs.listing.list_once.Goals as goal

pub returns-in_ok-sort_by-in-Ok-clause-names : goal.returns-in_ok-sort_by-in-Ok-clause-names
returns-in_ok-sort_by-in-Ok-clause-names g c tells name =
    let before = c.in-Ok.ensures.names tells name in
    let listed = c.in-Ok.names.items in
    let sorted = c.sort_by.new.self.items in (
      λ has. before.0
          (Contains-permutation sorted listed name (IsPermutation-sym listed sorted c.sort_by.ensures.permutation) has),
      λ some. Contains-permutation listed sorted name c.sort_by.ensures.permutation (before.1 some),
    )
