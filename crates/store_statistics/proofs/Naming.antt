-- Names in their order, each once.
use Rattle.std.proofs.Common.{◌≡◌, ℕ, List, [], ◌∷◌, ◌++◌, refl, sym, subst}
use Rattle.std.specs.Prelude.{◌↔◌, Bool, true, Contains}
use Rattle.std.specs.Cmp.{eq_by_cmp_equiv}
use Rattle.std.specs.Cmp.Lexicographic.{slice_cmp}
use Rattle.std.specs.List.{AllByRecursion, dedup}
use Rattle.std.specs.List.Sorted.{IsPermutation, IsSorted, IsStrictlySortedBy}
use Rattle.std.specs.Ordering.{eq_by_cmp, is_eq, nat_cmp}
use Rattle.std.specs.declared.cmp.Ordering.{Ordering}
use Rattle.std.specs.declared.cmp.Ordering.TheVariants.{Less, Equal, Greater}
use Rattle.std.proofs.lemmas.Cmp.{nat_list_cmp_total}
use Rattle.std.proofs.lemmas.List.Kept.{Contains-dedup, Contains-from_dedup, IsStrictlySortedBy-dedup}
use Rattle.std.proofs.lemmas.List.Sorted.{Contains-permutation, IsPermutation-sym}
use Rattle.syslog_value.proofs.Octets.{octets_ranked}

abbrev pub same : List ℕ → List ℕ → Bool
same = eq_by_cmp (slice_cmp nat_cmp)

equal_names : (a b : List ℕ) (o : Ordering) → o ≡ slice_cmp nat_cmp a b → is_eq o ≡ true → a ≡ b
equal_names a b Less is tied = absurd (cc tied)
equal_names a b Equal is tied = octets_ranked a b Equal is
equal_names a b Greater is tied = absurd (cc tied)

pub settled_order : (sorted kept : List (List ℕ)) → IsSorted (slice_cmp nat_cmp) sorted → kept ≡ dedup same sorted
    → IsStrictlySortedBy (slice_cmp nat_cmp) kept
settled_order sorted kept up is =
    subst (IsStrictlySortedBy (slice_cmp nat_cmp)) (sym is)
    (IsStrictlySortedBy-dedup nat_list_cmp_total (λ x y. refl) sorted up)

pub settled_same : (names sorted kept : List (List ℕ)) → IsPermutation names sorted → kept ≡ dedup same sorted
    → (name : List ℕ) → Contains kept name ↔ Contains names name
settled_same names sorted kept moved is name = (
  λ has. Contains-permutation sorted names name (IsPermutation-sym names sorted moved)
      (Contains-from_dedup same sorted name (subst (λ (l : List (List ℕ)). Contains l name) is has)),
  λ has. subst (λ (l : List (List ℕ)). Contains l name) (sym is)
      (Contains-dedup (eq_by_cmp_equiv nat_list_cmp_total)
      (λ x y tied. equal_names x y (slice_cmp nat_cmp x y) refl tied) sorted name
      (Contains-permutation names sorted name moved has)),
)

-- ---- some of the names

-- one name less
pub one_less : (xs : List (List ℕ)) (y : List ℕ) (zs : List (List ℕ))
    → IsStrictlySortedBy (slice_cmp nat_cmp) (xs ++ y ∷ zs) → IsStrictlySortedBy (slice_cmp nat_cmp) (xs ++ zs)
unfolding IsStrictlySortedBy
one_less [] y zs up = up.1
one_less (x ∷ xs) y zs up =
    (all_less (λ (n : List ℕ). slice_cmp nat_cmp x n ≡ Less) xs y zs up.0, one_less xs y zs up.1)
  where
    all_less : (P : List ℕ → Type 0) (xs : List (List ℕ)) (y : List ℕ) (zs : List (List ℕ))
        → AllByRecursion P (xs ++ y ∷ zs) → AllByRecursion P (xs ++ zs)
    all_less P [] y zs all = all.1
    all_less P (x ∷ xs) y zs all = (all.0, all_less P xs y zs all.1)
