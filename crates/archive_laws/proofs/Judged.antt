-- What was read of a text, entry by entry.
use Rattle.std.proofs.Common.{◌≡◌, ◌≢◌, ℕ, ◌+◌, ◌-◌, ◌<◌, ◌≤◌, refl, sym, ◌∙◌, ap, subst, arith, List, []}
use Rattle.std.proofs.Common.{◌∷◌, ◌++◌, length}
use Rattle.std.specs.Prelude.{ℤ, Option, Some, None}
use Rattle.std.specs.declared.cmp.Ordering.{Ordering}
use Rattle.std.specs.declared.cmp.Ordering.TheVariants.{Less}
use Rattle.std.proofs.lemmas.List.{append-nil, length-append, nil_from_length}
use Rattle.syslog_frame.specs.declared.limits.TheConstants.{COUNT_MAX}
use Rattle.syslog_value.specs.Parts.{Parts}
use Rattle.archive_text.specs.Entries.{Entry, IsAscending, IsOrder}
use Rattle.archive_text.specs.EntryViews.{entry_of}
use Rattle.archive_text.specs.Faults.{IsArchiveFault, IsFaultBefore}
use Rattle.archive_text.specs.Positions.{later}
use Rattle.archive_text.specs.Sets.{ArchiveText}
use Rattle.archive_text.specs.Text.{BeginsWithEntry, entry_text, text_of}
use Rattle.archive_text.specs.declared.entry.EntryView.{EntryView}
use Rattle.archive_text.specs.declared.fault.ArchiveFault.{ArchiveFault}
use Rattle.archive_text.specs.declared.fault.ArchiveFault.TheVariants.{NotAscending}
use Rattle.archive_text.proofs.Ascending.{archive_from, archive_nil, ascending_after, not_after}
use Rattle.archive_text.proofs.FaultLaws.{begins_with_octets, fault_behind}
use Rattle.archive_text.proofs.Prefixes.{archive_fault}
use Rattle.archive_text.proofs.Orders.{below_is_less, less_is_below}
use Rattle.archive_text.proofs.Sets.{archive_is_of_a_set}
use Rattle.archive_text.proofs.Texts.{text_goes_on, text_some}
use Rattle.archive_laws.specs.Judging.{IsLast, IsRead}

-- ---- the order

pub first_goes_on : (es : List Entry) (e : Entry) → IsLast es None → IsAscending (es ++ e ∷ [])
first_goes_on es e last = subst (λ xs. IsAscending (xs ++ e ∷ [])) (sym last) (tt, tt)

pub less_goes_on : (es : List Entry) (v : EntryView) (e : Entry) (o : Ordering) → IsLast es (Some v) → IsAscending es
    → IsOrder o (entry_of v) e → o ≡ Less → IsAscending (es ++ e ∷ [])
less_goes_on es v e o (fs, last) ascending h less =
    subst (λ xs. IsAscending (xs ++ e ∷ [])) (sym last)
    (ascending_after fs (entry_of v) e (subst IsAscending last ascending) (less_is_below (entry_of v) e o h less))

pub other_does_not : (es : List Entry) (v : EntryView) (e : Entry) (o : Ordering) → IsLast es (Some v) → IsAscending es
    → IsOrder o (entry_of v) e → o ≢ Less
    → ¬ (IsAscending (es ++ e ∷ []))
other_does_not es v e o (fs, last) ascending h differ also =
    not_after fs (entry_of v) e (subst IsAscending last ascending)
    (λ below. differ (below_is_less (entry_of v) e o h below)) (subst (λ xs. IsAscending (xs ++ e ∷ [])) last also)

-- ---- positions

pub read_length : (most : ℕ) (text rest : List ℕ) (last : Option EntryView) → (h : IsRead most text rest last)
    → length text ≡ length (text_of h.entries) + length rest
read_length most text rest last h = ap length h.parts ∙ length-append (text_of h.entries) rest

-- ---- one entry more

pub read_none : (most : ℕ) (text : List ℕ) → IsRead most text text None
read_none most text = record { entries = []; archive = archive_nil most; parts = refl; last_is = refl }

pub read_more : (most : ℕ) (text rest behind : List ℕ) (last : Option EntryView) (v : EntryView)
    → (h : IsRead most text rest last)
    → BeginsWithEntry most rest (entry_of v) behind → IsAscending (h.entries ++ entry_of v ∷ [])
    → IsRead most text behind (Some v)
read_more most text rest behind last v h begins ascending = record {
  entries = h.entries ++ entry_of v ∷ [];
  archive = archive_from most h.entries (entry_of v) h.archive begins.entry begins.fits ascending;
  parts = text_goes_on h.entries (entry_of v) text rest behind h.parts begins.parts;
  last_is = (h.entries, refl);
}

pub behind_shorter : (most : ℕ) (rest behind : List ℕ) (e : Entry) → BeginsWithEntry most rest e behind
    → length behind < length rest
behind_shorter most rest behind e h = omega (arith, ap length h.parts, length-append (entry_text e) behind, text_some e)

pub read_fault : (most at : ℕ) (text rest : List ℕ) (last : Option EntryView) (fault : ArchiveFault) → most ≤ COUNT_MAX
    → at ≡ length text - length rest → 0 < length rest
    → IsRead most text rest last → IsFaultBefore most rest fault → IsArchiveFault most text (later at fault)
read_fault most at text rest last fault low is some h bad =
    archive_fault most text h.entries rest (later at fault) low h.archive h.parts some
    (fault_behind most at h.entries rest fault (omega (arith, is, read_length most text rest last h)) bad)

pub read_not_above : (most at : ℕ) (text rest behind : List ℕ) (last : Option EntryView) (e : Entry) → most ≤ COUNT_MAX
    → at ≡ length text - length rest → 0 < length rest
    → (h : IsRead most text rest last) → BeginsWithEntry most rest e behind → ¬ (IsAscending (h.entries ++ e ∷ []))
    → IsArchiveFault most text (NotAscending at)
read_not_above most at text rest behind last e low is some h begins none =
    archive_fault most text h.entries rest (NotAscending at) low h.archive h.parts some (
      omega (arith, is, read_length most text rest last h),
      (e, begins.entry, begins_with_octets most rest e behind begins, none),
    )

-- nothing is left
pub read_all : (most : ℕ) (text rest : List ℕ) (last : Option EntryView) → IsRead most text rest last → length rest ≡ 0
    → (rs : List (Parts ℤ)) × ArchiveText most rs text
read_all most text rest last h none =
    let of = archive_is_of_a_set most h.entries h.archive in
    let is : text ≡ text_of h.entries = h.parts
    ∙ ap (λ (s : List ℕ). text_of h.entries ++ s) (nil_from_length rest none) ∙ append-nil (text_of h.entries) in
    (of.0, subst (λ t. ArchiveText most of.0 t) (sym is) of.1)
