-- Of a list of entries those of a range.
use Rattle.std.proofs.Common.{◌≡◌, ◌⊎◌, ℕ, ℤ, ◌<ℤ◌, ◌≤ℤ◌, Bool, true, false, List, [], ◌∷◌, ◌++◌, Option, None}
use Rattle.std.proofs.Common.{Some, inl, inr}
use Rattle.std.proofs.Common.{refl, sym, ap, subst, arith}
use Rattle.std.specs.Prelude.{◌↔◌, ◌&&◌, IfSome, not, if◌then◌else◌}
use Rattle.std.specs.List.{AllByRecursion}
use Rattle.std.specs.Int.Signed.{le_z}
use Rattle.std.proofs.lemmas.Bool.{false≢true}
use Rattle.std.proofs.Math.Dec.{T}
use Rattle.std.proofs.lemmas.Int.{by_lt_z}
use Rattle.jiff_core.proofs.SignedLemmas.{signed_arith}
use Rattle.archive_text.specs.Entries.{Entry, Has, IsAscending, IsBelow}
use Rattle.archive_text.specs.Text.{entry_text, text_of}
use Rattle.archive_text.proofs.Members.{of_all, of_member}
use Rattle.archive_sets.specs.Conditions.{IsInRange}
use Rattle.archive_sets.specs.declared.range.InRange.{InRange}
use Rattle.archive_join.specs.Holders.{kept_text}
use Rattle.archive_join.specs.Ranges.{IsOfRange}
use Rattle.store_reading.specs.Ranges.{is_from, is_in, is_inside, is_to, text_in}

-- ---- the test says whether an instant is in the range

to_T : (b : Bool) → b ≡ true → T b
to_T true h = tt
to_T false h = absurd (false≢true h)

of_T : (b : Bool) → T b → b ≡ true
of_T true h = refl
of_T false h = absurd h

pub clash : (b : Bool) → not b ≡ true → b ≡ true → ⊥
clash true h k = false≢true h
clash false h k = false≢true k

denied : (b : Bool) → (b ≡ true → ⊥) → not b ≡ true
denied true none = absurd (none refl)
denied false none = refl

from_says : (from : Option ℤ) (i : ℤ) → (is_from from i ≡ true) ↔ IfSome from (λ (f : ℤ). f ≤ℤ i)
from_says None i = (λ h. tt, λ h. refl)
from_says (Some f) i = (λ h. record { le = to_T (le_z f i) h }, λ h. of_T (le_z f i) h.le)

to_says : (to : Option ℤ) (i : ℤ) → (is_to to i ≡ true) ↔ IfSome to (λ (t : ℤ). i <ℤ t)
to_says None i = (λ h. tt, λ h. refl)
to_says (Some t) i = (
  λ h. by_lt_z i t (λ less. less) (λ from. absurd (clash (le_z t i) h (of_T (le_z t i) from.le))),
  λ less. denied (le_z t i) (λ lying. not_both less lying),
)
  where
    not_both : i <ℤ t → le_z t i ≡ true → ⊥
    not_both less lying = let below : t ≤ℤ i = record { le = to_T (le_z t i) lying } in omega
        (arith, signed_arith, less, below)

both : (a b : Bool) → ((a && b) ≡ true) ↔ ((a ≡ true) × (b ≡ true))
both true b = (λ h. (refl, h), λ h. h.1)
both false b = (λ h. absurd (false≢true h), λ h. absurd (false≢true h.0))

some_no : (f : ℤ) (to : Option ℤ) (u : Bool) → ((Some f ≡ None) × (to ≡ None)) ⊎ (u ≡ true) → u ≡ true
some_no f to u (inl h) = let none : Some f ≡ None = h.0 in absurd (cc none)
some_no f to u (inr is) = is

no_some : (from : Option ℤ) (t : ℤ) (u : Bool) → ((from ≡ None) × (Some t ≡ None)) ⊎ (u ≡ true) → u ≡ true
no_some from t u (inl h) = let none : Some t ≡ None = h.1 in absurd (cc none)
no_some from t u (inr is) = is

pub inside : (from to : Option ℤ) (u : Bool) (i : Option ℤ) → (is_inside from to u i ≡ true) ↔ IsInRange from to u i
inside None None u None = (λ h. inl (refl, refl), λ h. refl)
inside None (Some t) u None = (λ h. inr h, λ h. no_some None t u h)
inside (Some f) to u None = (λ h. inr h, λ h. some_no f to u h)
inside from to u (Some i) = (
  λ h. let b = (both (is_from from i) (is_to to i)).0 h in ((from_says from i).0 b.0, (to_says to i).0 b.1),
  λ h. (both (is_from from i) (is_to to i)).1 ((from_says from i).1 h.0, (to_says to i).1 h.1),
)

-- ---- lists

abbrev pub put_if : Bool → Entry → List Entry → List Entry
put_if true e es = e ∷ es
put_if false e es = es

-- those of the range
abbrev pub of_range : InRange → List Entry → List Entry
of_range r [] = []
of_range r (e ∷ es) = put_if (is_in r e) e (of_range r es)

put_text : (b : Bool) (e : Entry) (t : List ℕ) (zs : List Entry) → t ≡ text_of zs
    → (if b then entry_text e else []) ++ t ≡ text_of (put_if b e zs)
put_text true e t zs is = ap (λ (s : List ℕ). entry_text e ++ s) is
put_text false e t zs is = is

-- what is written of a list
pub range_text : (r : InRange) (xss : List (List Entry)) (ys : List Entry)
    → kept_text (λ (have : List Bool) (e : Entry). text_in r e) xss ys ≡ text_of (of_range r ys)
range_text r xss [] = refl
range_text r xss (y ∷ ys) =
    put_text (is_in r y) y (kept_text (λ (have : List Bool) (e : Entry). text_in r e) xss ys) (of_range r ys)
    (range_text r xss ys)

put_has : (b : Bool) (e x : Entry) (zs : List Entry) → Has (put_if b e zs) x → ((b ≡ true) × (e ≡ x)) ⊎ Has zs x
put_has true e x zs (inl same) = inl (refl, same)
put_has true e x zs (inr more) = inr more
put_has false e x zs h = inr h

has_put : (b : Bool) (e x : Entry) (zs : List Entry) → ((b ≡ true) × (e ≡ x)) ⊎ Has zs x → Has (put_if b e zs) x
has_put true e x zs (inl same) = inl same.1
has_put true e x zs (inr more) = inr more
has_put false e x zs (inl same) = absurd (false≢true same.0)
has_put false e x zs (inr more) = more

range_either : (r : InRange) (y x : Entry) (ys : List Entry) → (Has (of_range r ys) x → Has ys x × IsOfRange r x)
    → ((is_in r y ≡ true) × (y ≡ x)) ⊎ Has (of_range r ys) x → Has (y ∷ ys) x × IsOfRange r x
range_either r y x ys more (inl (here, same)) =
    (inl same, subst (IsOfRange r) same ((inside r.from r.to r.undated y.instant).0 here))
range_either r y x ys more (inr k) = let h = more k in (inr h.0, h.1)

range_has : (r : InRange) (ys : List Entry) (x : Entry) → Has (of_range r ys) x → Has ys x × IsOfRange r x
range_has r [] x h = absurd h
range_has r (y ∷ ys) x h =
    range_either r y x ys (range_has r ys x) (put_has (is_in r y) y x (of_range r ys) h)

has_range : (r : InRange) (ys : List Entry) (x : Entry) → Has ys x → IsOfRange r x → Has (of_range r ys) x
has_range r [] x h k = absurd h
has_range r (y ∷ ys) x (inl same) k =
    has_put (is_in r y) y x (of_range r ys)
    (inl ((inside r.from r.to r.undated y.instant).1 (subst (IsOfRange r) (sym same) k), same))
has_range r (y ∷ ys) x (inr more) k = has_put (is_in r y) y x (of_range r ys) (inr (has_range r ys x more k))

pub range_members : (r : InRange) (ys : List Entry) (x : Entry) → Has (of_range r ys) x ↔ (Has ys x × IsOfRange r x)
range_members r ys x = (range_has r ys x, λ h. has_range r ys x h.0 h.1)

put_ascending : (b : Bool) (e : Entry) (zs : List Entry) → AllByRecursion (IsBelow e) zs → IsAscending zs
    → IsAscending (put_if b e zs)
put_ascending true e zs below up = (below, up)
put_ascending false e zs below up = up

pub range_ascending : (r : InRange) (ys : List Entry) → IsAscending ys → IsAscending (of_range r ys)
range_ascending r [] up = tt
range_ascending r (y ∷ ys) up =
    put_ascending (is_in r y) y (of_range r ys)
    (of_all (IsBelow y) (of_range r ys) (λ x h. of_member (IsBelow y) ys x up.0 (range_has r ys x h).0))
    (range_ascending r ys up.1)
