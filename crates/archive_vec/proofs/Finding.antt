-- An entry is sought among ascending ones.
use Rattle.std.proofs.Common.{arith, add-one, ◌≡◌, ℕ, suc, zero, ◌+◌, ◌≤◌, List, [], ◌∷◌, length, take, drop, ◌-◌, Some}
use Rattle.std.proofs.Common.{subst}
use Rattle.std.proofs.lemmas.List.{take_all}
use Rattle.std.specs.List.{AllByRecursion, slice_get}
use Rattle.archive_text.specs.Entries.{Entry, IsAscending, IsBelow}
use Rattle.archive_text.proofs.Orders.{below_transitive}
use Rattle.archive_text.proofs.Members.{all_weaker}

-- the entry at an index is one of all
pub all_at : (P : Entry → Type 0) (es : List Entry) (x : Entry) (i : ℕ) → AllByRecursion P es → slice_get es i ≡ Some x
    → P x
all_at P [] x i h at = absurd (cc)
all_at P (y ∷ es) x zero h at = let same : y ≡ x = cc in subst P same h.0
all_at P (y ∷ es) x (suc i) h at = all_at P es x i h.1 at

-- those up to one below the entry are below it
below_suc : (es : List Entry) (e x : Entry) (i : ℕ) → IsAscending es → slice_get es i ≡ Some x → IsBelow x e
    → AllByRecursion (λ y. IsBelow y e) (take (suc i) es)
below_suc [] e x i h at low = tt
below_suc (y ∷ es) e x zero h at low = let same : x ≡ y = cc in (subst (λ (z : Entry). IsBelow z e) same low, tt)
below_suc (y ∷ es) e x (suc i) h at low = (
  below_transitive y x e (all_at (IsBelow y) es x i h.0 at) low,
  below_suc es e x i h.1 at low,
)

pub below_up_to : (es : List Entry) (e x : Entry) (i : ℕ) → IsAscending es → slice_get es i ≡ Some x → IsBelow x e
    → AllByRecursion (λ y. IsBelow y e) (take (i + 1) es)
below_up_to es e x i h at low = rw add-one (below_suc es e x i h at low)

-- those from one above the entry on are above it
pub above_from : (es : List Entry) (e x : Entry) (i : ℕ) → IsAscending es → slice_get es i ≡ Some x → IsBelow e x
    → AllByRecursion (IsBelow e) (drop i es)
above_from [] e x i h at high = absurd (cc)
above_from (y ∷ es) e x zero h at high =
    let same : x ≡ y = cc in
    let first = subst (IsBelow e) same high in
    (first, all_weaker (IsBelow y) (IsBelow e) (λ z l. below_transitive e y z first l) es h.0)
above_from (y ∷ es) e x (suc i) h at high = above_from es e x i h.1 at high

-- all are below the entry, where the last one is
pub all_below : (es : List Entry) (e x : Entry) (len : ℕ) → IsAscending es → len ≡ length es → ¬ (len ≡ 0)
    → slice_get es (len - 1) ≡ Some x → IsBelow x e
    → AllByRecursion (λ y. IsBelow y e) es
all_below es e x len order is some at low =
    let enough : length es ≤ (len - 1) + 1 = omega (arith, is) in
    subst (AllByRecursion (λ y. IsBelow y e)) (take_all ((len - 1) + 1) es enough)
    (below_up_to es e x (len - 1) order at low)
