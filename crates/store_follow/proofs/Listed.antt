-- Numbers in their order, and the journals that have them.
use Rattle.std.proofs.Common.{◌≡◌, ◌≢◌, ◌⊎◌, ℕ, ◌-◌, ◌<◌, ◌≤◌, ◌^◌, List, [], ◌∷◌, length, get_or}
use Rattle.std.proofs.Common.{Option, None, Some, refl, sym, ap, subst, ◌∙◌, inl, inr, arith}
use Rattle.std.specs.Prelude.{Contains, IfSome, slice_get}
use Rattle.std.proofs.lemmas.Option.{get_or_from_slice_get}
use Rattle.std.specs.List.Sorted.{IsStrictlyIncreasing}
use Rattle.std.proofs.lemmas.Bool.{cases_lt}
use Rattle.std.proofs.lemmas.List.{get_or_default}
use Rattle.std.proofs.lemmas.Map.Keys.{below_from_sorted, sorted_from_strictly_increasing}
use Rattle.disk.specs.States.{State}
use Rattle.record_store.specs.Shown.{AreShown, NoneShownAbove, ShowsNoJournal, journal_shown}
use Rattle.store_follow.specs.Looks.{BeginsAt, IsBeginning, NoneShownBelow}
use Rattle.store_follow.specs.declared.place.Place.{Place}

ascend : (xs : List ℕ) (i j : ℕ) → IsStrictlyIncreasing xs → i ≤ j → j < length xs → get_or xs i 0 ≤ get_or xs j 0
ascend xs i j up before inside = elim (cases_lt i j) [
  | inl below ↦ omega (arith, below_from_sorted xs i j 0 (sorted_from_strictly_increasing xs up) below inside)
  | inr same ↦ let e : i ≡ j = omega arith in omega (arith, ap (λ (n : ℕ). get_or xs n 0) e)
]

-- the last is the greatest
pub last_greatest : (xs : List ℕ) (last n : ℕ) → get_or xs (length xs - 1) 0 ≡ last → IsStrictlyIncreasing xs
    → Contains xs n → n ≤ last
last_greatest xs last n is up (k, below, here) =
    omega (
      arith,
      is,
      below,
      ascend xs k (length xs - 1) up (omega (arith, below)) (omega (arith, below)),
      get_or_default xs k n 0 below,
      here,
    )

-- the first is the least
pub first_least : (x : ℕ) (xs : List ℕ) (n : ℕ) → IsStrictlyIncreasing (x ∷ xs) → Contains (x ∷ xs) n → x ≤ n
first_least x xs n up (k, below, here) =
    omega (arith, ascend (x ∷ xs) 0 k up (omega arith) below, get_or_default (x ∷ xs) k n 0 below, here)

pub shown_or_not : (state : State) (n : ℕ) → ((journal_shown state n ≢ None) → ⊥) → journal_shown state n ≡ None
shown_or_not state n not = at (journal_shown state n) not
  where
    at : (found : Option (List ℕ)) → ((found ≢ None) → ⊥) → found ≡ None
    at None none = refl
    at (Some x) none = absurd (none (λ is. cc is))

module _ (state : State) (numbers : List ℕ) (are : AreShown state (2 ^ 64 - 1) numbers) where
  pub listed_shown : (n : ℕ) → Contains numbers n → journal_shown state n ≢ None
  listed_shown n has = ((are.are n).0 has).1

  pub none_later : (number : ℕ) → ((n : ℕ) → Contains numbers n → n ≤ number) → NoneShownAbove state number
  none_later number none n above small =
      shown_or_not state n (λ shown. let most = none n ((are.are n).1 (omega (arith, small), shown)) in omega (arith, most, above))

-- where a look begins
pub begins : (state : State) (numbers : List ℕ) (old : Option Place) (chosen : Place)
    → AreShown state (2 ^ 64 - 1) numbers → IsBeginning old numbers (Some chosen)
    → BeginsAt state old chosen.number chosen.at
begins state numbers (Some place) chosen are is =
    let same : chosen ≡ place = cc in (ap (λ (p : Place). p.number) same, ap (λ (p : Place). p.at) same)
begins state [] None chosen are is = absurd (cc is)
begins state (number ∷ numbers) None chosen are (place, is, number_is, at_is) =
    let same : chosen ≡ place = cc in
    let first : chosen.number ≡ number = ap (λ (p : Place). p.number) same ∙ number_is in
    let has : Contains (number ∷ numbers) number = (0, omega arith, refl) in
    let below : NoneShownBelow state number = λ n before.
    shown_or_not state n (λ shown.
    let size = ((are.are number).0 has).0 in
    let least = first_least number numbers n are.ascend ((are.are n).1 (omega (arith, size, before), shown)) in
    omega (arith, least, before)) in (
      omega (arith, first, ((are.are number).0 has).0),
      subst (λ (k : ℕ). journal_shown state k ≢ None) (sym first) (((are.are number).0 has).1),
      subst (λ (k : ℕ). NoneShownBelow state k) (sym first) below,
      ap (λ (p : Place). p.at) same ∙ at_is,
    )

-- the last of some numbers, if there is one
pub last_of : (xs : List ℕ) (found : Option ℕ) → found ≡ slice_get xs (length xs - 1)
    → IfSome found (λ n. IsStrictlyIncreasing xs → (m : ℕ) → Contains xs m → m ≤ n)
last_of xs None is = tt
last_of xs (Some n) is = λ up m has. last_greatest xs n m (get_or_from_slice_get xs (length xs - 1) n 0 (sym is)) up has

pub not_in_none : (n : ℕ) → Contains [] n → ⊥
not_in_none n (k, below, same) = omega (arith, below)

-- numbers among which no later one is, and not this one though all are not below it
pub none_shown : (state : State) (numbers : List ℕ) (number : ℕ) → AreShown state (2 ^ 64 - 1) numbers
    → ((n : ℕ) → Contains numbers n → n ≤ number) → journal_shown state number ≡ None
    → (numbers ≡ []) ⊎ ((m : ℕ) × Contains numbers m × (number ≤ m)) → ShowsNoJournal state
none_shown state numbers number are none absent (inl empty) n small =
    shown_or_not state n (λ shown. not_in_none n (subst (λ (l : List ℕ). Contains l n) empty
    ((are.are n).1 (omega (arith, small), shown))))
none_shown state numbers number are none absent (inr (m, has, above)) n small =
    let is : number ≡ m = omega (arith, above, none m has) in
    absurd (listed_shown state numbers are m has (subst (λ (k : ℕ). journal_shown state k ≡ None) is absent))
