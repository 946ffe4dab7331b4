-- Who has an entry.
use Rattle.std.proofs.Common.{◌≡◌, ℕ, ℤ, Bool, true, false, List, [], ◌∷◌, Option, Some, None, Decides, refl, ap, inl, inr}
use Rattle.std.specs.Prelude.{nat_eq}
use Rattle.std.specs.Cmp.Lexicographic.{bytes_decides, pointwise}
use Rattle.std.specs.Option.{option_eq}
use Rattle.std.specs.Ordering.{int_eq}
use Rattle.std.proofs.lemmas.Bool.{false≢true}
use Rattle.std.proofs.lemmas.Bool.Decides.{Decides-and, Decides-int_eq, Decides-like, Decides-or, same_from_decides}
use Rattle.archive_text.specs.Entries.{Entry, Has}
use Rattle.archive_text.proofs.Orders.{same_entry}
use Rattle.archive_join.specs.Holders.{has_entry, holders, is_same, kept_text}

instants_decide : (i j : Option ℤ) → Decides (option_eq int_eq i j) (i ≡ j)
instants_decide None None = (λ _. refl, λ _. refl)
instants_decide None (Some j) = (λ e. absurd (false≢true e), λ e. absurd (cc e))
instants_decide (Some i) None = (λ e. absurd (false≢true e), λ e. absurd (cc e))
instants_decide (Some i) (Some j) =
    Decides-like (int_eq i j) (λ (e : i ≡ j). ap Some e) (λ e. let same : i ≡ j = cc e in same) (Decides-int_eq i j)

-- two entries are the same
pub same_decides : (a b : Entry) → Decides (is_same a b) (a ≡ b)
same_decides a b =
    Decides-like (is_same a b) (λ (h : (a.instant ≡ b.instant) × (a.octets ≡ b.octets)). same_entry a b h.0 h.1)
    (λ e. (ap (λ (x : Entry). x.instant) e, ap (λ (x : Entry). x.octets) e))
    (Decides-and (option_eq int_eq a.instant b.instant) (pointwise nat_eq a.octets b.octets)
    (instants_decide a.instant b.instant) (bytes_decides a.octets b.octets))

-- a list has an entry
pub has_decides : (xs : List Entry) (e : Entry) → Decides (has_entry xs e) (Has xs e)
has_decides [] e = (λ h. absurd (false≢true h), λ h. absurd h)
has_decides (x ∷ xs) e = Decides-or (is_same x e) (has_entry xs e) (same_decides x e) (has_decides xs e)

-- lists that both have it or both have it not
pub has_same : (xs ys : List Entry) (e : Entry) → (Has xs e → Has ys e) → (Has ys e → Has xs e)
    → has_entry xs e ≡ has_entry ys e
has_same xs ys e there back =
    same_from_decides (has_entry xs e) (has_entry ys e) (has_decides xs e)
    (Decides-like (has_entry ys e) back there (has_decides ys e))

-- a list that has it not
pub has_not : (xs : List Entry) (e : Entry) → ¬ (Has xs e) → has_entry xs e ≡ false
has_not xs e none = off (has_entry xs e) (has_decides xs e).0
  where
    off : (b : Bool) → (b ≡ true → Has xs e) → b ≡ false
    off true h = absurd (none (h refl))
    off false h = refl

-- the texts of entries that the same lists have
pub texts_same : (text : List Bool → Entry → List ℕ) (xss yss : List (List Entry)) (ys : List Entry)
    → ((y : Entry) → Has ys y → holders xss y ≡ holders yss y) → kept_text text xss ys ≡ kept_text text yss ys
texts_same text xss yss [] same = refl
texts_same text xss yss (y ∷ ys) same =
    rw (same y (inl refl), texts_same text xss yss ys (λ x h. same x (inr h))) refl
