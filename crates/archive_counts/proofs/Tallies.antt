-- One entry more is told of.
use Rattle.std.proofs.Common.{◌≡◌, ℕ, ◌+◌, ◌-◌, ◌^◌, ◌<◌, List, [], ◌∷◌, ◌++◌, Option, None, Some, length, min, refl, sym}
use Rattle.std.proofs.Common.{ap, subst, ◌∙◌, inl, inr, arith}
use Rattle.std.specs.Prelude.{◌⊎◌, ℤ, ◌<ℤ◌, ◌≤ℤ◌}
use Rattle.std.specs.Option.{option_or}
use Rattle.std.proofs.lemmas.Int.{ints}
use Rattle.std.proofs.lemmas.List.{length-append}
use Rattle.syslog_frame.specs.Frames.{framed}
use Rattle.syslog_frame.specs.declared.framing.Framing.TheVariants.{Counted}
use Rattle.archive_text.specs.Entries.{Entry, Has, InstantBelow, IsAscending, IsBelow}
use Rattle.archive_text.specs.Text.{entry_text, text_of}
use Rattle.archive_text.proofs.Ascending.{below_last}
use Rattle.archive_text.proofs.Members.{has_either, has_left, has_right, of_member}
use Rattle.archive_text.proofs.Texts.{text_push}
use Rattle.archive_sets.proofs.Selecting.{no_more_than_octets}
use Rattle.archive_counts.specs.Tallies.{AreUndated, HasInstant, IsEarliest, IsLatest, IsTallyOf}
use Rattle.archive_counts.specs.declared.tally.Tally.{Tally}

-- ---- instants in the order of an archive

by_instant : (a b : Option ℤ) (i j : ℤ) → a ≡ Some i → b ≡ Some j → InstantBelow a b → i ≤ℤ j
by_instant None b i j x y below = absurd cc
by_instant (Some k) None i j x y below = absurd below
by_instant (Some k) (Some l) i j x y below =
    let left : k ≡ i = cc in
    let right : l ≡ j = cc in
    let less : k <ℤ l = below in
    omega (arith, ints, left, right, less)

not_after : (a b : Entry) (i j : ℤ) → a.instant ≡ Some i → b.instant ≡ Some j → IsBelow a b → i ≤ℤ j
not_after a b i j x y (inl below) = by_instant a.instant b.instant i j x y below
not_after a b i j x y (inr (same, octets)) =
    let equal : i ≡ j = cc in
    omega (arith, ints, equal)

-- ---- the entry that was added last

one_behind : (es : List Entry) (e x : Entry) → IsAscending (es ++ e ∷ []) → Has es x → IsBelow x e
one_behind es e x up h = of_member (λ y. IsBelow y e) es x (below_last es e up) h

-- an instant of the entries with it is one of theirs, or its own
either_instant : (es : List Entry) (e : Entry) (i : ℤ) → HasInstant (es ++ e ∷ []) i → HasInstant es i ⊎ (e.instant ≡ Some i)
either_instant es e i h = which (has_either es (e ∷ []) h.entry h.among)
  where
    which : Has es h.entry ⊎ Has (e ∷ []) h.entry → HasInstant es i ⊎ (e.instant ≡ Some i)
    which (inl early) = inl (record { entry = h.entry; among = early; is = h.is })
    which (inr (inl same)) = inr (ap (λ (x : Entry). x.instant) same ∙ h.is)
    which (inr (inr none)) = absurd none

earlier_instant : (es : List Entry) (e : Entry) (i : ℤ) → HasInstant es i → HasInstant (es ++ e ∷ []) i
earlier_instant es e i h = record { entry = h.entry; among = has_left es (e ∷ []) h.entry h.among; is = h.is }

own_instant : (es : List Entry) (e : Entry) (i : ℤ) → e.instant ≡ Some i → HasInstant (es ++ e ∷ []) i
own_instant es e i is = record { entry = e; among = has_right es (e ∷ []) e (inl refl); is = is }

not_undated : (es : List Entry) (i : ℤ) → AreUndated es → HasInstant es i → ⊥
not_undated es i none h = let clash : None ≡ Some i = sym (none h.entry h.among) ∙ h.is in absurd cc

undated_more : (es : List Entry) (e : Entry) → e.instant ≡ None → AreUndated es → AreUndated (es ++ e ∷ [])
undated_more es e is none x h = which (has_either es (e ∷ []) x h)
  where
    which : Has es x ⊎ Has (e ∷ []) x → x.instant ≡ None
    which (inl early) = none x early
    which (inr (inl same)) = ap (λ (y : Entry). y.instant) (sym same) ∙ is
    which (inr (inr other)) = absurd other

same_instant : (a : Option ℤ) (i j : ℤ) → a ≡ Some i → a ≡ Some j → i ≡ j
same_instant a i j x y = cc

equal_from : (i j : ℤ) → i ≡ j → i ≤ℤ j
equal_from i j e = omega (arith, ints, e)

-- ---- the earliest and the latest

pub earliest_more : (es : List Entry) (e : Entry) (a b : Option ℤ) → e.instant ≡ b → IsAscending (es ++ e ∷ [])
    → IsEarliest es a → IsEarliest (es ++ e ∷ []) (option_or a b)
earliest_more es e None None is up u = undated_more es e is u
earliest_more es e None (Some j) is up u = (
  own_instant es e j is,
  λ k h.
      elim (either_instant es e k h) [
        | inl early ↦ absurd (not_undated es k u early)
        | inr own ↦ equal_from j k (same_instant e.instant j k is own)
      ],
)
earliest_more es e (Some i) b is up u = (
  earlier_instant es e i u.0,
  λ k h.
      elim (either_instant es e k h) [
        | inl early ↦ u.1 k early
        | inr own ↦ not_after u.0.entry e i k u.0.is own (one_behind es e u.0.entry up u.0.among)
      ],
)

pub latest_more : (es : List Entry) (e : Entry) (a b : Option ℤ) → e.instant ≡ b → IsAscending (es ++ e ∷ [])
    → IsLatest es a → IsLatest (es ++ e ∷ []) (option_or b a)
latest_more es e None None is up u = undated_more es e is u
latest_more es e (Some i) None is up u = (
  earlier_instant es e i u.0,
  λ k h.
      elim (either_instant es e k h) [
        | inl early ↦ u.1 k early
        | inr own ↦ (let clash : None ≡ Some k = sym is ∙ own in absurd cc)
      ],
)
latest_more es e a (Some j) is up u = (
  own_instant es e j is,
  λ k h.
      elim (either_instant es e k h) [
        | inl early ↦ not_after early.entry e k j early.is is (one_behind es e early.entry up early.among)
        | inr own ↦ equal_from k j (same_instant e.instant k j own is)
      ],
)

-- ---- the whole tally

longer : (es : List Entry) (e : Entry) → length (text_of (es ++ e ∷ [])) ≡ length (text_of es) + length (entry_text e)
longer es e = omega (arith, ap length (text_push es e), length-append (text_of es) (entry_text e))

-- what a call that adds an entry did
pub record Adds (s t : Tally) (e : Entry) (size : ℕ) : Type 0 where
  pub sized : length (framed Counted e.octets) < 2 ^ 64 → size ≡ length (framed Counted e.octets)
  pub records : t.records ≡ min (s.records + 1) (2 ^ 64 - 1)
  pub octets : t.octets ≡ min (s.octets + size) (2 ^ 64 - 1)
  pub first : t.first ≡ option_or s.first e.instant
  pub last : t.last ≡ option_or e.instant s.last

pub tally_more : (s t : Tally) (es : List Entry) (e : Entry) (size : ℕ) → Adds s t e size → IsAscending (es ++ e ∷ [])
    → length (text_of (es ++ e ∷ [])) < 2 ^ 64 → IsTallyOf s es → IsTallyOf t (es ++ e ∷ [])
tally_more s t es e size a up short h =
    let exact : size ≡ length (entry_text e) = a.sized (omega (arith, longer es e, short)) in
    record {
      records = omega (
        arith,
        a.records,
        h.records,
        length-append es (e ∷ []),
        no_more_than_octets (es ++ e ∷ []),
        short,
      );
      octets = omega (arith, a.octets, h.octets, exact, longer es e, short);
      first = subst (IsEarliest (es ++ e ∷ [])) (sym a.first) (earliest_more es e s.first e.instant refl up h.first);
      last = subst (IsLatest (es ++ e ∷ [])) (sym a.last) (latest_more es e s.last e.instant refl up h.last);
    }
