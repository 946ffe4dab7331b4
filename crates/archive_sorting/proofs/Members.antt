-- What is added to entries, and how long their text is.
use Rattle.std.proofs.Common.{◌≡◌, ℕ, zero, suc, ◌+◌, List, [], ◌∷◌, ◌++◌, sym, ap, subst, ◌∙◌, inl, inr, arith, take}
use Rattle.std.proofs.Common.{◌^◌, ◌*◌, ◌≤◌, ◌<◌, length, length-append}
use Rattle.std.specs.Prelude.{slice_index_or, ℤ, Option, decimal}
use Rattle.std.specs.List.{AllByRecursion}
use Rattle.std.proofs.lemmas.Fmt.{length-decimal-le}
use Rattle.std.proofs.lemmas.List.{length-map, map-append, take_all, take_more}
use Rattle.syslog_value.specs.Parts.{Parts}
use Rattle.syslog_fields.specs.Canonical.{Canonical}
use Rattle.syslog_grammar.proofs.CanonicalParses.{canonical_once}
use Rattle.syslog_grammar.specs.ShownRecords.{AddsShown}
use Rattle.syslog_reading.specs.ShownParts.{IsViewOf, ViewParts}
use Rattle.syslog_reading.specs.WellFormed.{WellFormed}
use Rattle.archive_text.specs.Entries.{Entry, Has, IsAscending, IsEntry, IsEntryOf}
use Rattle.archive_text.specs.Text.{IsArchive, entry_text, text_of}
use Rattle.archive_text.specs.declared.limits.TheConstants.{ENTRY_MAX}
use Rattle.archive_text.proofs.Members.{has_either, has_left, has_right, of_all, of_member}
use Rattle.archive_text.proofs.Shown.{shown_entry}
use Rattle.archive_sorting.specs.Settled.{HaveSame}
use Rattle.archive_sorting.specs.Spans.{entries_at, entry_at, octets_at, ranked}
use Rattle.archive_sorting.specs.Within.{AreFit, IsFit}
use Rattle.archive_sorting.specs.declared.arena.Span.{Span}

-- ---- members

-- one entry behind the others is one more of the set
pub same_more : (old new es : List Entry) (e : Entry) → new ≡ old ++ e ∷ [] → HaveSame old es → HaveSame new (e ∷ es)
same_more old new es e is same x = (
  λ h.
      subst (λ (l : List Entry). Has l x) (sym is) (elim h [
        | inl one ↦ has_right old (e ∷ []) x (inl one)
        | inr more ↦ has_left old (e ∷ []) x ((same x).0 more)
      ]),
  λ h. elim (has_either old (e ∷ []) x (subst (λ (l : List Entry). Has l x) is h)) [
    | inl before ↦ inr ((same x).1 before)
    | inr (inl one) ↦ inl one
    | inr (inr none) ↦ absurd none
  ],
)

-- ---- what an archive may have

fit_push : (es : List Entry) (e : Entry) → AreFit es → IsFit ENTRY_MAX e → AreFit (es ++ e ∷ [])
fit_push [] e all one = (one, tt)
fit_push (f ∷ es) e all one = (all.0, fit_push es e all.1 one)

pub fit_pushed : (es new : List Entry) (e : Entry) → new ≡ es ++ e ∷ [] → AreFit es → IsFit ENTRY_MAX e → AreFit new
fit_pushed es new e is all one = subst AreFit (sym is) (fit_push es e all one)

-- ascending entries that were fit are an archive
pub archive_same : (xs zs : List Entry) → HaveSame xs zs → AreFit xs → IsAscending zs → IsArchive ENTRY_MAX zs
archive_same xs zs same all up = record {
  ascending = up;
  entries = of_all IsEntry zs (λ x h. (of_member (IsFit ENTRY_MAX) xs x all ((same x).0 h)).entry);
  fits =
      of_all (λ e. length e.octets ≤ ENTRY_MAX) zs
      (λ x h. (of_member (IsFit ENTRY_MAX) xs x all ((same x).0 h)).fits);
}

pub fit_same : (xs zs : List Entry) → HaveSame xs zs → AreFit xs → AreFit zs
fit_same xs zs same all =
    of_all (IsFit ENTRY_MAX) zs (λ x h. of_member (IsFit ENTRY_MAX) xs x all ((same x).0 h))

pub same_kept : (xs ys zs : List Entry) → zs ≡ ys → HaveSame xs ys → HaveSame xs zs
same_kept xs ys zs is same = subst (HaveSame xs) (sym is) same

pub same_then : (xs ys zs : List Entry) → HaveSame xs ys → HaveSame ys zs → HaveSame xs zs
same_then xs ys zs h k x = (λ has. (h x).0 ((k x).0 has), λ has. (k x).1 ((h x).1 has))

pub same_through : (xs ys zs : List Entry) → HaveSame xs ys → HaveSame xs zs → HaveSame ys zs
same_through xs ys zs h k x = (λ has. (h x).1 ((k x).0 has), λ has. (k x).1 ((h x).0 has))

-- ---- entries that are copied

pub fit_at : (blocks : List (List ℕ)) (p : List Span) (i : ℕ) (s : Span) → i < length p → s ≡ slice_index_or p i s
    → AreFit (entries_at blocks p) → length (octets_at blocks s) ≤ ENTRY_MAX
fit_at blocks [] i s within read all = absurd (omega (arith, within))
fit_at blocks (t ∷ p) zero s within read all =
    subst (λ (u : Span). length (octets_at blocks u) ≤ ENTRY_MAX) (sym read) all.0.fits
fit_at blocks (t ∷ p) (suc i) s within read all = fit_at blocks p i s (omega (arith, within)) read all.1

pub copied_more : (blocks : List (List ℕ)) (p : List Span) (i : ℕ) (s : Span) (o : List ℕ) (es : List Entry)
    → i < length p → s ≡ slice_index_or p i s → es ≡ entries_at blocks (take i p) → o ≡ octets_at blocks s
    → es ++ ranked s.rank o ∷ [] ≡ entries_at blocks (take (i + 1) p)
copied_more blocks p i s o es within read same is =
    ap (λ (l : List Entry). l ++ ranked s.rank o ∷ []) same
    ∙ ap (λ (b : List ℕ). entries_at blocks (take i p) ++ ranked s.rank b ∷ []) is
    ∙ sym (map-append (entry_at blocks) (take i p) (s ∷ []))
    ∙ ap (λ (q : List Span). entries_at blocks q)
    (ap (λ (x : Span). take i p ++ x ∷ []) read ∙ sym (take_more p i s within))

pub copied_all : (blocks : List (List ℕ)) (p : List Span) (i : ℕ) → length p ≤ i
    → entries_at blocks (take i p) ≡ entries_at blocks p
copied_all blocks p i end = ap (entries_at blocks) (take_all i p end)

-- ---- records

pub too_long : (r : Parts ℤ) (octets : List ℕ) → Canonical r octets → ENTRY_MAX < length octets → (e : Entry)
    → IsEntryOf r e → ENTRY_MAX < length e.octets
too_long r octets canonical long e h = subst (λ (b : List ℕ). ENTRY_MAX < length b)
    (canonical_once r octets e.octets canonical h.canonical) long

-- the record that a view shows is one more of the set
pub shown_more : (s : ViewParts) (scratch b : List ℕ) (i : Option ℤ) (old new es : List Entry) → AddsShown s [] scratch
    → i ≡ s.instant → IsViewOf b s → new ≡ old ++ record { instant = i; octets = scratch } ∷ [] → HaveSame old es
    → (r : Parts ℤ) × (e : Entry) × WellFormed r b × IsEntryOf r e × HaveSame new (e ∷ es)
shown_more s scratch b i old new es h is seen adds same =
    let e : Entry = record { instant = i; octets = scratch } in
    (h.shown, e, h.spelled b seen, shown_entry s scratch i h is, same_more old new es e adds same)

-- ---- how long a text is

entry_short : (e : Entry) → length e.octets ≤ ENTRY_MAX → length (entry_text e) ≤ 524_316
entry_short e h =
    let n = length e.octets in
    omega (
      arith,
      h,
      length-append (decimal n) (32 ∷ e.octets),
      length-decimal-le 20 n (omega arith) (omega (arith, h)) (omega (arith, h)),
    )

text_short : (es : List Entry) → AllByRecursion (λ e. length e.octets ≤ ENTRY_MAX) es
    → length (text_of es) ≤ length es * 524_316
text_short [] h = omega arith
text_short (e ∷ es) h = omega (arith, length-append (entry_text e) (text_of es), entry_short e h.0, text_short es h.1)

pub text_fits : (blocks : List (List ℕ)) (spans : List Span) → IsArchive ENTRY_MAX (entries_at blocks spans)
    → length spans ≤ 1_099_511_627_776 → length (text_of (entries_at blocks spans)) < 2 ^ 64
text_fits blocks spans h few =
    omega (arith, text_short (entries_at blocks spans) h.fits, length-map spans (entry_at blocks), few)
