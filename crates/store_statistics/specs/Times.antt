-- The earliest and the latest of times.
use Rattle.std.specs.Prelude.{◌≡◌, ◌⊎◌, ℤ, ◌≤ℤ◌, List, [], ◌∷◌, Option, None, Some, IfSome, IsSomeAnd}

-- one of two times, neither of which is before it; the other where one is none
pub record IsEarlier (a b found : Option ℤ) : Type 0 where
  pub one : (found ≡ a) ⊎ (found ≡ b)
  pub left : IfSome a (λ (i : ℤ). IsSomeAnd found (λ (f : ℤ). f ≤ℤ i))
  pub right : IfSome b (λ (i : ℤ). IsSomeAnd found (λ (f : ℤ). f ≤ℤ i))

-- one of two times, neither of which is behind it
pub record IsLater (a b found : Option ℤ) : Type 0 where
  pub one : (found ≡ a) ⊎ (found ≡ b)
  pub left : IfSome a (λ (i : ℤ). IsSomeAnd found (λ (f : ℤ). i ≤ℤ f))
  pub right : IfSome b (λ (i : ℤ). IsSomeAnd found (λ (f : ℤ). i ≤ℤ f))

-- some of these is this time
abbrev pub HasTime : List (Option ℤ) → ℤ → Type 0
HasTime [] i = ⊥
HasTime (t ∷ ts) i = (t ≡ Some i) ⊎ HasTime ts i

-- the earliest of them, and the latest; none where there is none
abbrev pub IsFirstOf : List (Option ℤ) → Option ℤ → Type 0
IsFirstOf ts None = (i : ℤ) → ¬ (HasTime ts i)
IsFirstOf ts (Some i) = HasTime ts i × ((j : ℤ) → HasTime ts j → i ≤ℤ j)

abbrev pub IsLastOf : List (Option ℤ) → Option ℤ → Type 0
IsLastOf ts None = (i : ℤ) → ¬ (HasTime ts i)
IsLastOf ts (Some i) = HasTime ts i × ((j : ℤ) → HasTime ts j → j ≤ℤ i)
