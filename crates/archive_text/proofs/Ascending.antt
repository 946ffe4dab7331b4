-- Strictly ascending lists of entries.
use Rattle.std.proofs.Common.{◌≡◌, ℕ, ◌≤◌, ◌∙◌, inl, inr, refl, sym, ap, subst, List, [], ◌∷◌, ◌++◌, length, arith}
use Rattle.std.specs.List.{AllByRecursion}
use Rattle.archive_text.specs.Entries.{Entry, Has, IsAscending, IsBelow, IsEntry}
use Rattle.archive_text.specs.Text.{IsArchive}
use Rattle.archive_text.proofs.Members.{all_append, all_left, all_right, all_weaker, of_all, of_member}
use Rattle.archive_text.proofs.Orders.{below_asymmetric, below_differ, below_irreflexive, below_transitive}

-- ---- parts

pub ascending_left : (a b : List Entry) → IsAscending (a ++ b) → IsAscending a
ascending_left [] b h = tt
ascending_left (e ∷ a) b h = (all_left (IsBelow e) a b h.0, ascending_left a b h.1)

pub ascending_right : (a b : List Entry) → IsAscending (a ++ b) → IsAscending b
ascending_right [] b h = h
ascending_right (e ∷ a) b h = ascending_right a b h.1

-- each entry of the first part is below each of the second
pub ascending_across : (a b : List Entry) (x y : Entry) → IsAscending (a ++ b) → Has a x → Has b y → IsBelow x y
ascending_across [] b x y h k l = absurd k
ascending_across (e ∷ a) b x y h (inl same) l =
    subst (λ z. IsBelow z y) same (of_member (IsBelow e) b y (all_right (IsBelow e) a b h.0) l)
ascending_across (e ∷ a) b x y h (inr more) l = ascending_across a b x y h.1 more l

pub ascending_join : (a b : List Entry) → IsAscending a → IsAscending b
    → ((x y : Entry) → Has a x → Has b y → IsBelow x y) → IsAscending (a ++ b)
ascending_join [] b h k below = k
ascending_join (e ∷ a) b h k below = (
  all_append (IsBelow e) a b h.0 (of_all (IsBelow e) b (λ y l. below e y (inl refl) l)),
  ascending_join a b h.1 k (λ x y l m. below x y (inr l) m),
)

-- ---- one entry more

-- between those below it and those above it
pub ascending_inserted : (a b : List Entry) (e : Entry) → IsAscending (a ++ b) → AllByRecursion (λ x. IsBelow x e) a
    → AllByRecursion (IsBelow e) b → IsAscending (a ++ e ∷ b)
ascending_inserted [] b e h below above = (above, h)
ascending_inserted (f ∷ a) b e h below above = (
  all_append (IsBelow f) a (e ∷ b) (all_left (IsBelow f) a b h.0) (below.0, all_right (IsBelow f) a b h.0),
  ascending_inserted a b e h.1 below.1 above,
)

pub ascending_removed : (a b : List Entry) (e : Entry) → IsAscending (a ++ e ∷ b) → IsAscending (a ++ b)
ascending_removed [] b e h = h.1
ascending_removed (f ∷ a) b e h = (
  all_append (IsBelow f) a b (all_left (IsBelow f) a (e ∷ b) h.0) (all_right (IsBelow f) a (e ∷ b) h.0).1,
  ascending_removed a b e h.1,
)

-- above all
pub ascending_appended : (es : List Entry) (e : Entry) → IsAscending es → AllByRecursion (λ x. IsBelow x e) es
    → IsAscending (es ++ e ∷ [])
ascending_appended [] e h below = (tt, tt)
ascending_appended (f ∷ es) e h below = (
  all_append (IsBelow f) es (e ∷ []) h.0 (below.0, tt),
  ascending_appended es e h.1 below.1,
)

-- the last entry is above all others
pub below_last : (es : List Entry) (e : Entry) → IsAscending (es ++ e ∷ []) → AllByRecursion (λ x. IsBelow x e) es
below_last [] e h = tt
below_last (f ∷ es) e h = ((all_right (IsBelow f) es (e ∷ []) h.0).0, below_last es e h.1)

pub below_after : (es : List Entry) (l e : Entry) → IsAscending (es ++ l ∷ []) → IsBelow l e
    → AllByRecursion (λ x. IsBelow x e) (es ++ l ∷ [])
below_after es l e h k =
    all_append (λ x. IsBelow x e) es (l ∷ [])
    (all_weaker (λ x. IsBelow x l) (λ x. IsBelow x e) (λ x less. below_transitive x l e less k) es
    (below_last es l h)) (k, tt)

-- above the last
pub ascending_after : (es : List Entry) (l e : Entry) → IsAscending (es ++ l ∷ []) → IsBelow l e
    → IsAscending ((es ++ l ∷ []) ++ e ∷ [])
ascending_after es l e h k = ascending_appended (es ++ l ∷ []) e h (below_after es l e h k)

-- an entry that does not go on behind the last is not above it
pub not_after : (es : List Entry) (l e : Entry) → IsAscending (es ++ l ∷ []) → ¬ (IsBelow l e)
    → ¬ (IsAscending ((es ++ l ∷ []) ++ e ∷ []))
not_after es l e h k also = k ((all_right (λ x. IsBelow x e) es (l ∷ []) (below_last (es ++ l ∷ []) e also)).0)

-- ---- members

-- an entry with others below and others above it is none of them
pub not_between : (a b : List Entry) (e : Entry) → AllByRecursion (λ x. IsBelow x e) a → AllByRecursion (IsBelow e) b
    → ¬ (Has (a ++ b) e)
not_between [] b e below above h = below_irreflexive e (of_member (IsBelow e) b e above h)
not_between (f ∷ a) b e below above (inl same) = below_differ f e below.0 same
not_between (f ∷ a) b e below above (inr more) = not_between a b e below.1 above more

same_first : (e f : Entry) (es fs : List Entry) → IsAscending (e ∷ es) → IsAscending (f ∷ fs) → Has (f ∷ fs) e
    → Has (e ∷ es) f → e ≡ f
same_first e f es fs h k (inl same) l = sym same
same_first e f es fs h k (inr more) (inl same) = same
same_first e f es fs h k (inr more) (inr also) =
    absurd (below_asymmetric e f (of_member (IsBelow e) es f h.0 also) (of_member (IsBelow f) fs e k.0 more))

-- a further member of one list is one of the other, whose first entry is the same
further : (e f : Entry) (es fs : List Entry) → AllByRecursion (IsBelow e) es → e ≡ f
    → ((x : Entry) → Has (e ∷ es) x → Has (f ∷ fs) x) → (x : Entry) → Has es x → Has fs x
further e f es fs above same each x h =
    elim (each x (inr h)) [
      | inl first ↦ absurd (below_differ e x (of_member (IsBelow e) es x above h) (same ∙ first))
      | inr more ↦ more
    ]

-- two ascending lists with the same members are one
pub same_members : (es fs : List Entry) → IsAscending es → IsAscending fs → ((x : Entry) → Has es x → Has fs x)
    → ((x : Entry) → Has fs x → Has es x) → es ≡ fs
same_members [] [] h k there back = refl
same_members [] (f ∷ fs) h k there back = absurd (back f (inl refl))
same_members (e ∷ es) [] h k there back = absurd (there e (inl refl))
same_members (e ∷ es) (f ∷ fs) h k there back =
    let same = same_first e f es fs h k (there e (inl refl)) (back f (inl refl)) in
    let others = same_members es fs h.1 k.1 (further e f es fs h.0 same there) (further f e fs es k.0 (sym same) back)
    in
    ap (λ x. x ∷ es) same ∙ ap (λ xs. f ∷ xs) others

-- ---- archives

pub archive_nil : (most : ℕ) → IsArchive most []
archive_nil most = record { ascending = tt; entries = tt; fits = tt }

pub archive_left : (most : ℕ) (a b : List Entry) → IsArchive most (a ++ b) → IsArchive most a
archive_left most a b h = record {
  ascending = ascending_left a b h.ascending;
  entries = all_left IsEntry a b h.entries;
  fits = all_left (λ e. length e.octets ≤ most) a b h.fits;
}

pub archive_right : (most : ℕ) (a b : List Entry) → IsArchive most (a ++ b) → IsArchive most b
archive_right most a b h = record {
  ascending = ascending_right a b h.ascending;
  entries = all_right IsEntry a b h.entries;
  fits = all_right (λ e. length e.octets ≤ most) a b h.fits;
}

pub archive_inserted : (most : ℕ) (a b : List Entry) (e : Entry) → IsArchive most (a ++ b) → IsEntry e
    → length e.octets ≤ most
    → AllByRecursion (λ x. IsBelow x e) a → AllByRecursion (IsBelow e) b → IsArchive most (a ++ e ∷ b)
archive_inserted most a b e h entry fits below above = record {
  ascending = ascending_inserted a b e h.ascending below above;
  entries = all_append IsEntry a (e ∷ b) (all_left IsEntry a b h.entries) (entry, all_right IsEntry a b h.entries);
  fits = all_append (λ x. length x.octets ≤ most) a (e ∷ b) (all_left (λ x. length x.octets ≤ most) a b h.fits)
      (fits, all_right (λ x. length x.octets ≤ most) a b h.fits);
}

pub archive_from : (most : ℕ) (es : List Entry) (e : Entry) → IsArchive most es → IsEntry e → length e.octets ≤ most
    → IsAscending (es ++ e ∷ []) → IsArchive most (es ++ e ∷ [])
archive_from most es e h entry fits ascending = record {
  ascending = ascending;
  entries = all_append IsEntry es (e ∷ []) h.entries (entry, tt);
  fits = all_append (λ x. length x.octets ≤ most) es (e ∷ []) h.fits (fits, tt);
}

pub archive_appended : (most : ℕ) (es : List Entry) (e : Entry) → IsArchive most es → IsEntry e → length e.octets ≤ most
    → AllByRecursion (λ x. IsBelow x e) es
    → IsArchive most (es ++ e ∷ [])
archive_appended most es e h entry fits below =
    archive_from most es e h entry fits (ascending_appended es e h.ascending below)

-- a larger limit
pub archive_wider : (most more : ℕ) (es : List Entry) → most ≤ more → IsArchive most es → IsArchive more es
archive_wider most more es wider h = record {
  ascending = h.ascending;
  entries = h.entries;
  fits = all_weaker (λ e. length e.octets ≤ most) (λ e. length e.octets ≤ more) (λ e k. omega (arith, k)) es h.fits;
}
