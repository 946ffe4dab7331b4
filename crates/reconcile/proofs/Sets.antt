-- Facts on sets of entries, and on those of them in a range.
use Rattle.std.proofs.Common.{◌≡◌, ℕ, ◌≤◌, List, [], ◌∷◌, inl, inr, refl, sym, subst, ◌∙◌, arith, length}
use Rattle.std.specs.Prelude.{◌⊎◌, ◌↔◌, Option, None, Some}
use Rattle.std.specs.List.{AllByRecursion}
use Rattle.archive_text.specs.Entries.{Entry, Has, IsAscending, IsBelow, IsEntry}
use Rattle.archive_text.specs.Text.{IsArchive}
use Rattle.archive_text.proofs.Orders.{below_asymmetric, below_differ, below_total}
use Rattle.archive_text.proofs.Members.{of_all, of_member}
use Rattle.archive_text.proofs.Ascending.{same_members}
use Rattle.reconcile.specs.Ranges.{AreThose, Covers, IsInside, IsSumIn, IsUnder}
use Rattle.reconcile.specs.Unions.{AgreeOn}
use Rattle.reconcile.specs.declared.range.Range.{Range}
use Rattle.reconcile.specs.declared.sum.Sum.{Sum}
use Rattle.reconcile.specs.declared.part.Part.{Part}

-- ---- what holds or does not

entry_cases : (x y : Entry) → (x ≡ y) ⊎ ¬ (x ≡ y)
entry_cases x y =
    elim (below_total x y) [
      | inl less ↦ inr (below_differ x y less)
      | inr (inl same) ↦ inl same
      | inr (inr more) ↦ inr (λ e. below_differ y x more (sym e))
    ]

pub has_cases : (xs : List Entry) (x : Entry) → Has xs x ⊎ ¬ (Has xs x)
has_cases [] x = inr (λ h. h)
has_cases (y ∷ ys) x =
    elim (entry_cases y x) [
      | inl e ↦ inl (inl e)
      | inr n ↦ elim (has_cases ys x) [
        | inl h ↦ inl (inr h)
        | inr m ↦ inr (λ h. elim h [ inl e ↦ n e | inr k ↦ m k ])
      ]
    ]

pub list_cases : (xs ys : List Entry) → (xs ≡ ys) ⊎ ¬ (xs ≡ ys)
list_cases [] [] = inl refl
list_cases [] (y ∷ ys) = inr (λ e. cc)
list_cases (x ∷ xs) [] = inr (λ e. cc)
list_cases (x ∷ xs) (y ∷ ys) =
    elim (entry_cases x y) [
      | inl e ↦ elim (list_cases xs ys) [ inl f ↦ inl (cc) | inr n ↦ inr (λ q. n (cc)) ]
      | inr n ↦ inr (λ q. n (cc))
    ]

pub below_cases : (x y : Entry) → IsBelow x y ⊎ ¬ (IsBelow x y)
below_cases x y =
    elim (below_total x y) [
      | inl less ↦ inl less
      | inr (inl same) ↦ inr (λ h. below_differ x y h same)
      | inr (inr more) ↦ inr (λ h. below_asymmetric x y h more)
    ]

pub under_cases : (h : Option Entry) (x : Entry) → IsUnder h x ⊎ ¬ (IsUnder h x)
under_cases None x = inl tt
under_cases (Some h) x = below_cases x h

pub inside_cases : (r : Range) (x : Entry) → IsInside r x ⊎ ¬ (IsInside r x)
inside_cases r x =
    elim (below_cases x r.low) [
      | inl low ↦ inr (λ i. i.0 low)
      | inr above ↦ elim (under_cases r.high x) [ inl under ↦ inl (above, under) | inr high ↦ inr (λ i. high i.1) ]
    ]

pub covers_cases : (ps : List Part) (x : Entry) → Covers ps x ⊎ ¬ (Covers ps x)
covers_cases [] x = inr (λ h. h)
covers_cases (p ∷ ps) x =
    elim (inside_cases p.range x) [
      | inl i ↦ inl (inl i)
      | inr n ↦ elim (covers_cases ps x) [
        | inl c ↦ inl (inr c)
        | inr m ↦ inr (λ h. elim h [ inl i ↦ n i | inr c ↦ m c ])
      ]
    ]

-- ---- sets that agree

pub iff_then : {A B C : Type 0} → (A ↔ B) → (B ↔ C) → (A ↔ C)
iff_then h k = (λ a. k.0 (h.0 a), λ c. h.1 (k.1 c))

pub iff_same : {A : Type 0} → (A ↔ A)
iff_same = (λ a. a, λ a. a)

pub agree_back : (P : Entry → Type 0) (a b : List Entry) → AgreeOn P a b → AgreeOn P b a
agree_back P a b h x p = ((h x p).1, (h x p).0)

pub agree_then : (P : Entry → Type 0) (a b c : List Entry) → AgreeOn P a b → AgreeOn P b c → AgreeOn P a c
agree_then P a b c h k x p = iff_then (h x p) (k x p)

-- the entries of two sets that agree are one list
pub those_same : (P : Entry → Type 0) (a b xs ys : List Entry) → AreThose P a xs → AreThose P b ys → AgreeOn P a b
    → xs ≡ ys
those_same P a b xs ys h k agree =
    same_members xs ys h.ascending k.ascending
    (λ x m. let t = (h.members x).0 m in (k.members x).1 ((agree x t.1).0 t.0, t.1))
    (λ x m. let t = (k.members x).0 m in (h.members x).1 ((agree x t.1).1 t.0, t.1))

pub those_agree : (P : Entry → Type 0) (a b xs ys : List Entry) → AreThose P a xs → AreThose P b ys → xs ≡ ys
    → AgreeOn P a b
those_agree P a b xs ys h k e x p = (
  λ m. ((k.members x).0 (subst (λ l. Has l x) e ((h.members x).1 (m, p)))).0,
  λ m. ((h.members x).0 (subst (λ l. Has l x) (sym e) ((k.members x).1 (m, p)))).0,
)

pub those_alike : (P : Entry → Type 0) (a b ys : List Entry) → AreThose P a ys → AgreeOn P a b → AreThose P b ys
those_alike P a b ys h agree = record {
  ascending = h.ascending;
  members = λ x. (
    λ m. let t = (h.members x).0 m in ((agree x t.1).0 t.0, t.1),
    λ t. (h.members x).1 ((agree x t.1).1 t.0, t.1),
  );
}

pub told_alike : (r : Range) (s : Sum) (a b : List Entry) → IsSumIn a r s → AgreeOn (IsInside r) a b → IsSumIn b r s
told_alike r s a b h agree = record {
  entries = h.entries;
  those = those_alike (IsInside r) a b h.entries h.those agree;
  sum = h.sum;
}

pub those_archive : (most : ℕ) (P : Entry → Type 0) (a ys : List Entry) → IsArchive most a → AreThose P a ys
    → IsArchive most ys
those_archive most P a ys h k = record {
  ascending = k.ascending;
  entries = of_all IsEntry ys (λ x m. of_member IsEntry a x h.entries ((k.members x).0 m).0);
  fits = of_all (λ e. length e.octets ≤ most) ys
      (λ x m. of_member (λ e. length e.octets ≤ most) a x h.fits ((k.members x).0 m).0);
}

-- ---- how many there are

-- an entry that is the first of one list is none of those behind another first that is not above it
behind : (x y : Entry) (xs ys : List Entry) → AllByRecursion (IsBelow y) ys → y ≡ x
    → ((z : Entry) → Has (y ∷ ys) z → Has (x ∷ xs) z) → (z : Entry) → Has ys z → Has xs z
behind x y xs ys above same each z h =
    elim (each z (inr h)) [
      | inl e ↦ absurd (below_differ y z (of_member (IsBelow y) ys z above h) (same ∙ e))
      | inr more ↦ more
    ]

beyond : (x y : Entry) (xs ys : List Entry) → AllByRecursion (IsBelow y) ys → AllByRecursion (IsBelow x) xs → Has xs y
    → ((z : Entry) → Has (y ∷ ys) z → Has (x ∷ xs) z) → (z : Entry) → Has (y ∷ ys) z → Has xs z
beyond x y xs ys above over there each z h =
    elim (each z h) [
      | inl e ↦
          let low : IsBelow x y = of_member (IsBelow x) xs y over there in
          elim h [
            | inl same ↦ absurd (below_differ x y low (e ∙ sym same))
            | inr more ↦ absurd (below_asymmetric x y low
                (subst (IsBelow y) (sym e) (of_member (IsBelow y) ys z above more)))
          ]
      | inr more ↦ more
    ]

pub fewer : (xs ys : List Entry) → IsAscending xs → IsAscending ys → ((z : Entry) → Has ys z → Has xs z)
    → length ys ≤ length xs
fewer xs [] h k each = omega arith
fewer [] (y ∷ ys) h k each = absurd (each y (inl refl))
fewer (x ∷ xs) (y ∷ ys) h k each =
    elim (each y (inl refl)) [
      | inl e ↦ let n = fewer xs ys h.1 k.1 (behind x y xs ys k.0 (sym e) each) in omega (arith, n)
      | inr there ↦ let n = fewer xs (y ∷ ys) h.1 k (beyond x y xs ys k.0 h.0 there each) in omega (arith, n)
    ]

pub those_fewer : (P : Entry → Type 0) (xs ys : List Entry) → IsAscending xs → AreThose P xs ys → length ys ≤ length xs
those_fewer P xs ys h k = fewer xs ys h k.ascending (λ z m. ((k.members z).0 m).0)
