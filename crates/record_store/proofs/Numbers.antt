-- The numbers of journals.
use Rattle.std.proofs.Common.{◌≡◌, ◌≢◌, ◌⊎◌, inl, inr, ⊎_elim, ℕ, ◌<◌, ◌≤◌, ◌^◌, List, [], ◌∷◌, ◌++◌, length, take, drop}
use Rattle.std.proofs.Math.Seq.{get_or-append_seam}
use Rattle.std.proofs.Common.{◌+◌, get_or, length-append, min, refl, sym, ap, subst, ◌∙◌, arith}
use Rattle.std.specs.Prelude.{Contains, Option, None, Some, IfNone, IfSome, IsSome, eqb}
use Rattle.std.specs.List.{AllByRecursion, dedup}
use Rattle.std.specs.List.Sorted.{IsPermutation, IsSorted, IsStrictlyIncreasing, IsStrictlySortedBy}
use Rattle.std.specs.Option.{option_map}
use Rattle.std.specs.Ordering.{nat_cmp}
use Rattle.std.specs.declared.cmp.Ordering.TheVariants.{Less}
use Rattle.std.proofs.lemmas.Bool.{cases_lt}
use Rattle.std.proofs.lemmas.List.{get_or_append_left, take-append-drop, take_all}
use Rattle.std.proofs.lemmas.List.Elements.{Contains-append_left, Contains-get_or, Contains-push, Contains-push_cases}
use Rattle.std.proofs.lemmas.List.Kept.{Contains-dedup_nat, Contains-from_dedup}
use Rattle.std.proofs.lemmas.List.Sorted.{Contains-permutation, IsPermutation-sym}
use Rattle.std.proofs.lemmas.Map.Keys.{IsStrictlyIncreasing-dedup, IsStrictlyIncreasing-from_sorted}
use Rattle.std.proofs.lemmas.Map.Keys.{below_from_sorted, sorted_from_strictly_increasing}
use Rattle.archive_text.proofs.Members.{all_left}
use Rattle.disk.specs.Calls.{AreNames}
use Rattle.disk.specs.Files.{File}
use Rattle.disk.specs.States.{State}
use Rattle.journal.specs.Journals.{IsSound}
use Rattle.record_store.specs.Names.{AreNumbersOf, journal_name}
use Rattle.record_store.specs.Shown.{AreShown}
use Rattle.record_store.proofs.Named.{other_number}

none_contained : {X : Type 0} → (x : X) → Contains [] x → ⊥
none_contained x (k, below, same) = omega (arith, below)

pub numbers_none : (last : ℕ) → AreNumbersOf [] last []
numbers_none last n = (λ has. absurd (none_contained n has), λ has. absurd (none_contained (journal_name n) has.1))

module _ (names : List (List ℕ)) (name : List ℕ) (last : ℕ) (numbers : List ℕ) (small : last < 2 ^ 64)
    (before : AreNumbersOf names last numbers) where
  -- one name more, of a journal
  pub numbers_more : (number : ℕ) → number ≤ last → name ≡ journal_name number
      → AreNumbersOf (names ++ name ∷ []) last (numbers ++ number ∷ [])
  numbers_more number up_to named n = (
    λ has. ⊎_elim
        (λ first.
        let was = (before n).0 first in
        (was.0, Contains-append_left names (name ∷ []) (journal_name n) was.1))
        (λ (is : number ≡ n). (
          subst (λ (k : ℕ). k ≤ last) is up_to,
          subst (Contains (names ++ name ∷ [])) (named ∙ ap journal_name is) (Contains-push names name),
        ))
        (Contains-push_cases numbers number n has),
    λ has. ⊎_elim
        (λ first. Contains-append_left numbers (number ∷ []) n ((before n).1 (has.0, first)))
        (λ (is : name ≡ journal_name n).
        let same : number ≡ n = other_number number n (omega (arith, up_to, small)) (omega (arith, has.0, small))
        (sym named ∙ is) in
        subst (Contains (numbers ++ number ∷ [])) same (Contains-push numbers number))
        (Contains-push_cases names name (journal_name n) has.1),
  )

  -- or of none up to it
  pub numbers_same : ((n : ℕ) → n ≤ last → name ≢ journal_name n) → AreNumbersOf (names ++ name ∷ []) last numbers
  numbers_same none n = (
    λ has.
        let was = (before n).0 has in
        (was.0, Contains-append_left names (name ∷ []) (journal_name n) was.1),
    λ has. ⊎_elim
        (λ first. (before n).1 (has.0, first))
        (λ (is : name ≡ journal_name n). absurd (none n has.0 is))
        (Contains-push_cases names name (journal_name n) has.1),
  )

-- ---- in order

sorted_left : (xs ys : List ℕ) → IsStrictlySortedBy nat_cmp (xs ++ ys) → IsStrictlySortedBy nat_cmp xs
unfolding IsStrictlySortedBy
sorted_left [] ys sorted = tt
sorted_left (x ∷ xs) ys sorted =
    (all_left (λ y. nat_cmp x y ≡ Less) xs ys sorted.0, sorted_left xs ys sorted.1)

increasing_left : (xs ys : List ℕ) → IsStrictlyIncreasing (xs ++ ys) → IsStrictlyIncreasing xs
increasing_left xs ys ascend =
    IsStrictlyIncreasing-from_sorted xs (sorted_left xs ys (sorted_from_strictly_increasing (xs ++ ys) ascend))

pub increasing_take : (n : ℕ) (xs : List ℕ) → IsStrictlyIncreasing xs → IsStrictlyIncreasing (take n xs)
increasing_take n xs ascend =
    increasing_left (take n xs) (drop n xs) (subst IsStrictlyIncreasing (sym (take-append-drop n xs)) ascend)

pub take_part : (n : ℕ) (xs : List ℕ) (x : ℕ) → Contains (take n xs) x → Contains xs x
take_part n xs x has =
    subst (λ (l : List ℕ). Contains l x) (take-append-drop n xs) (Contains-append_left (take n xs) (drop n xs) x has)

-- those before the last are below it
pub below_last : (xs : List ℕ) (y x : ℕ) → IsStrictlyIncreasing (xs ++ y ∷ []) → Contains xs x → x < y
below_last xs y x ascend (k, inside, is) =
    omega (
      arith,
      below_from_sorted (xs ++ y ∷ []) k (length xs) x (sorted_from_strictly_increasing (xs ++ y ∷ []) ascend) inside
          (omega (arith, length-append xs (y ∷ []))),
      get_or_append_left xs (y ∷ []) x k inside,
      is,
      get_or-append_seam xs y [] x,
    )

-- the last is none of those before it
pub last_apart : (xs : List ℕ) (x : ℕ) → IsStrictlyIncreasing (xs ++ x ∷ []) → ¬ (Contains xs x)
last_apart xs x ascend has = absurd (omega (arith, below_last xs x x ascend has))

-- one more, above all
pub increasing_push : (xs : List ℕ) (y : ℕ) → IsStrictlyIncreasing xs → ((x : ℕ) → Contains xs x → x < y)
    → IsStrictlyIncreasing (xs ++ y ∷ [])
increasing_push xs y ascend below k inside =
    let long = length-append xs (y ∷ []) in
    let first = get_or_append_left xs (y ∷ []) 0 k (omega (arith, long, inside)) in
    ⊎_elim
    (λ early. omega (arith, first, get_or_append_left xs (y ∷ []) 0 (k + 1) early, ascend k early))
    (λ late.
    let at : k + 1 ≡ length xs = omega (arith, long, inside, late) in
    let last = ap (λ (n : ℕ). get_or (xs ++ y ∷ []) n 0) at ∙ get_or-append_seam xs y [] 0 in
    omega (arith, first, last, below (get_or xs k 0) (Contains-get_or xs k 0 (omega (arith, at)))))
    (cases_lt (k + 1) (length xs))

pub first_ones : (count most : ℕ) (xs : List ℕ) → count ≡ min (length xs) most → take count xs ≡ take most xs
first_ones count most xs is = ⊎_elim
    (λ few. take_all count xs (omega (arith, is, few)) ∙ sym (take_all most xs (omega (arith, few))))
    (λ more. ap (λ (n : ℕ). take n xs) (omega (arith, is, more)))
    (cases_lt (length xs) most)

-- ---- of those that are shown

pub are_shown : (state : State) (names : List (List ℕ)) (last : ℕ) (found sorted numbers : List ℕ)
    → IsSound state → AreNames state names → AreNumbersOf names last found → IsPermutation found sorted
    → IsSorted nat_cmp sorted → numbers ≡ dedup eqb sorted → AreShown state last numbers
are_shown state names last found sorted numbers sound are of moves in_order is =
    subst (AreShown state last) (sym is) (record {
      ascend = IsStrictlyIncreasing-dedup sorted in_order;
      are = λ n. (
        λ has.
            let was = (of n).0 (Contains-permutation sorted found n (IsPermutation-sym found sorted moves)
            (Contains-from_dedup eqb sorted n has)) in
            (was.0, some_is_shown (state.entries (journal_name n)).now ((are sound (journal_name n)).0 was.1)),
        λ is_shown.
            Contains-dedup_nat sorted n
            (Contains-permutation found sorted n moves ((of n).1 (
              is_shown.0,
              (are sound (journal_name n)).1 (shown_is_some (state.entries (journal_name n)).now is_shown.1),
            ))),
      );
    })
  where
    some_is_shown : (now : Option File) → IsSome now → option_map (λ (f : File). f.shown) now ≢ None
    some_is_shown None some = absurd (cc some)
    some_is_shown (Some file) some = λ none. cc none

    shown_is_some : (now : Option File) → option_map (λ (f : File). f.shown) now ≢ None → IsSome now
    shown_is_some None shown = absurd (shown refl)
    shown_is_some (Some file) shown = refl

-- the first of them are up to the last
pub small_part : (state : State) (last : ℕ) (numbers some : List ℕ) (count : ℕ) → AreShown state last numbers
    → some ≡ take count numbers → (n : ℕ) → Contains some n → n ≤ last
small_part state last numbers some count are is n has =
    ((are.are n).0 (take_part count numbers n (subst (λ (l : List ℕ). Contains l n) is has))).0
