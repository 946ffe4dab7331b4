-- One time more.
use Rattle.std.proofs.Common.{◌≡◌, ◌⊎◌, List, [], ◌∷◌, ◌++◌, Option, None, Some, inl, inr, sym, subst, arith}
use Rattle.std.specs.Prelude.{ℤ, ◌≤ℤ◌, IfSome}
use Rattle.std.proofs.lemmas.Int.{ints}
use Rattle.store_statistics.specs.Times.{HasTime, IsEarlier, IsFirstOf, IsLastOf, IsLater}

either_time : (ts : List (Option ℤ)) (t : Option ℤ) (i : ℤ) → HasTime (ts ++ t ∷ []) i → HasTime ts i ⊎ (t ≡ Some i)
either_time [] t i (inl is) = inr is
either_time [] t i (inr none) = absurd none
either_time (s ∷ ts) t i (inl is) = inl (inl is)
either_time (s ∷ ts) t i (inr more) =
    elim (either_time ts t i more) [ inl early ↦ inl (inr early) | inr is ↦ inr is ]

early_time : (ts : List (Option ℤ)) (t : Option ℤ) (i : ℤ) → HasTime ts i → HasTime (ts ++ t ∷ []) i
early_time [] t i h = absurd h
early_time (s ∷ ts) t i (inl is) = inl is
early_time (s ∷ ts) t i (inr more) = inr (early_time ts t i more)

own_time : (ts : List (Option ℤ)) (t : Option ℤ) (i : ℤ) → t ≡ Some i → HasTime (ts ++ t ∷ []) i
own_time [] t i is = inl is
own_time (s ∷ ts) t i is = inr (own_time ts t i is)

-- ---- the earliest

first_has : (ts : List (Option ℤ)) (a : Option ℤ) (f : ℤ) → IsFirstOf ts a → a ≡ Some f → HasTime ts f
first_has ts None f h is = absurd (cc is)
first_has ts (Some i) f h is = let same : i ≡ f = cc is in subst (HasTime ts) same h.0

first_least : (ts : List (Option ℤ)) (a : Option ℤ) (f k : ℤ) → IsFirstOf ts a → IfSome a (λ (i : ℤ). f ≤ℤ i)
    → HasTime ts k → f ≤ℤ k
first_least ts None f k h least has = absurd (h k has)
first_least ts (Some i) f k h least has = let up = h.1 k has in omega (arith, ints, least, up)

own_least : (t : Option ℤ) (f k : ℤ) → IfSome t (λ (i : ℤ). f ≤ℤ i) → t ≡ Some k → f ≤ℤ k
own_least None f k least is = absurd (cc is)
own_least (Some i) f k least is = let same : i ≡ k = cc is in subst (λ (x : ℤ). f ≤ℤ x) same least

no_first : (ts : List (Option ℤ)) (a : Option ℤ) (k : ℤ) → IsFirstOf ts a → IfSome a (λ (i : ℤ). ⊥) → HasTime ts k → ⊥
no_first ts None k h none has = h k has
no_first ts (Some i) k h none has = none

no_own : (t : Option ℤ) (k : ℤ) → IfSome t (λ (i : ℤ). ⊥) → t ≡ Some k → ⊥
no_own None k none is = cc is
no_own (Some i) k none is = none

pub first_more : (ts : List (Option ℤ)) (t a found : Option ℤ) → IsEarlier a t found → IsFirstOf ts a
    → IsFirstOf (ts ++ t ∷ []) found
first_more ts t a None e h = λ k has. elim (either_time ts t k has) [
  | inl early ↦ no_first ts a k h e.left early
  | inr own ↦ no_own t k e.right own
]
first_more ts t a (Some f) e h = (
  elim e.one [
    | inl is ↦ early_time ts t f (first_has ts a f h (sym is))
    | inr is ↦ own_time ts t f (sym is)
  ],
  λ k has. elim (either_time ts t k has) [
    | inl early ↦ first_least ts a f k h e.left early
    | inr own ↦ own_least t f k e.right own
  ],
)

-- ---- the latest

last_has : (ts : List (Option ℤ)) (a : Option ℤ) (f : ℤ) → IsLastOf ts a → a ≡ Some f → HasTime ts f
last_has ts None f h is = absurd (cc is)
last_has ts (Some i) f h is = let same : i ≡ f = cc is in subst (HasTime ts) same h.0

last_most : (ts : List (Option ℤ)) (a : Option ℤ) (f k : ℤ) → IsLastOf ts a → IfSome a (λ (i : ℤ). i ≤ℤ f)
    → HasTime ts k → k ≤ℤ f
last_most ts None f k h most has = absurd (h k has)
last_most ts (Some i) f k h most has = let up = h.1 k has in omega (arith, ints, most, up)

own_most : (t : Option ℤ) (f k : ℤ) → IfSome t (λ (i : ℤ). i ≤ℤ f) → t ≡ Some k → k ≤ℤ f
own_most None f k most is = absurd (cc is)
own_most (Some i) f k most is = let same : i ≡ k = cc is in subst (λ (x : ℤ). x ≤ℤ f) same most

no_last : (ts : List (Option ℤ)) (a : Option ℤ) (k : ℤ) → IsLastOf ts a → IfSome a (λ (i : ℤ). ⊥) → HasTime ts k → ⊥
no_last ts None k h none has = h k has
no_last ts (Some i) k h none has = none

pub last_more : (ts : List (Option ℤ)) (t a found : Option ℤ) → IsLater a t found → IsLastOf ts a
    → IsLastOf (ts ++ t ∷ []) found
last_more ts t a None e h = λ k has. elim (either_time ts t k has) [
  | inl early ↦ no_last ts a k h e.left early
  | inr own ↦ no_own t k e.right own
]
last_more ts t a (Some f) e h = (
  elim e.one [
    | inl is ↦ early_time ts t f (last_has ts a f h (sym is))
    | inr is ↦ own_time ts t f (sym is)
  ],
  λ k has. elim (either_time ts t k has) [
    | inl early ↦ last_most ts a f k h e.left early
    | inr own ↦ own_most t f k e.right own
  ],
)
