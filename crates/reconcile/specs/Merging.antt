-- The last entries of two ascending lists.
use Rattle.std.specs.Prelude.{◌≡◌, ◌↔◌, ◌+◌, ◌<◌, ◌⊎◌, List, [], ◌∷◌, ◌++◌, length}
use Rattle.std.specs.List.{AllByRecursion}
use Rattle.std.specs.declared.cmp.Ordering.{Ordering}
use Rattle.std.specs.declared.cmp.Ordering.TheVariants.{Less, Equal, Greater}
use Rattle.archive_text.specs.Entries.{Entry, Has, IsAscending, IsBelow}

-- an entry is the last one of a list
abbrev pub IsLastOf : List Entry → Entry → Type 0
IsLastOf es e = (front : List Entry) × (es ≡ front ++ e ∷ [])

-- the last one of the second list is above all of the first, or the other way round, or both lists end with one entry
abbrev pub IsLastOrder : Ordering → List Entry → List Entry → Type 0
IsLastOrder Less xs ys =
    (length ys ≡ 0 → length xs ≡ 0) × ((y : Entry) → IsLastOf ys y → AllByRecursion (λ x. IsBelow x y) xs)
IsLastOrder Equal xs ys = (z : Entry) × IsLastOf xs z × IsLastOf ys z
IsLastOrder Greater xs ys =
    (0 < length xs) × ((x : Entry) → IsLastOf xs x → AllByRecursion (λ y. IsBelow y x) ys)

-- the greatest entry of two lists leaves them
pub record TakesLast (xs ys xs_now ys_now : List Entry) (z : Entry) : Type 0 where
  pub first : IsAscending xs_now
  pub second : IsAscending ys_now
  pub above : (x : Entry) → Has xs_now x ⊎ Has ys_now x → IsBelow x z
  pub members : (x : Entry) → (Has xs x ⊎ Has ys x) ↔ ((z ≡ x) ⊎ (Has xs_now x ⊎ Has ys_now x))
  pub fewer : length xs_now + length ys_now < length xs + length ys
