-- An old text is migrated entry by entry.
use Rattle.std.proofs.Common.{◌≡◌, ℕ, ◌+◌, ◌-◌, ◌<◌, false, ◌≤◌, ◌∙◌, refl, sym, ap, subst, inl, inr, arith, List, []}
use Rattle.std.proofs.Common.{◌∷◌, ◌++◌, length}
use Rattle.std.specs.Prelude.{ℤ, OnOk, Option, Some, None, Result, Ok, Err}
use Rattle.std.specs.Result.{is_err}
use Rattle.std.proofs.lemmas.List.{append-nil, length-append}
use Rattle.syslog_value.specs.Parts.{Parts}
use Rattle.syslog_reading.specs.ViewParts.{IsViewOf, ViewParts}
use Rattle.syslog_reading.specs.WellFormed.{WellFormed}
use Rattle.syslog_reading.proofs.Laws.{one_meaning}
use Rattle.archive_text.specs.Entries.{Entry, IsAscending, IsEntryOf}
use Rattle.archive_text.specs.EntryViews.{entry_of}
use Rattle.archive_text.specs.Positions.{later, position_of}
use Rattle.archive_text.specs.Stores.{AddsRecord}
use Rattle.archive_text.specs.Text.{text_of}
use Rattle.archive_text.specs.declared.entry.EntryView.{EntryView}
use Rattle.archive_text.specs.declared.fault.ArchiveFault.{ArchiveFault}
use Rattle.archive_text.specs.declared.fault.ArchiveFault.TheVariants.{BadFrame, EntryTooLong, BadEntry, NotCanonical}
use Rattle.archive_text.specs.declared.fault.ArchiveFault.TheVariants.{NotAscending}
use Rattle.archive_text.specs.declared.limits.TheConstants.{ENTRY_MAX}
use Rattle.archive_text.specs.declared.store.Added.{Added}
use Rattle.archive_text.proofs.Ascending.{ascending_after, not_after}
use Rattle.archive_text.proofs.Members.{has_either, has_left, has_right}
use Rattle.archive_text.proofs.Places.{adds_has}
use Rattle.archive_text.proofs.Texts.{one_entry_of, text_goes_on}
use Rattle.archive_migration.specs.Migration.{AddsMigrated, AddsNew, IsNewEntryOf, Migrates}
use Rattle.archive_migration.specs.OldEntries.{IsOldArchive, IsOldEntry}
use Rattle.archive_migration.specs.OldFaults.{IsOldArchiveFault, IsOldFaultBefore}
use Rattle.archive_migration.specs.OldTexts.{BeginsWithOldEntry}
use Rattle.archive_migration.specs.Reading.{IsAboveLast, IsFaultAfter, IsLast}
use Rattle.archive_migration.proofs.OldForms.{new_form_well_formed, well_formed_new_form}
use Rattle.archive_migration.proofs.OldPrefixes.{old_archive_fault}
use Rattle.archive_migration.proofs.OldTexts.{old_archive_from}
use Rattle.archive_text.specs.Faults.{IsCountFault}

-- ---- faults at their positions

-- a fault is within the text
pub position_within : (most : ℕ) (rest : List ℕ) (fault : ArchiveFault) → IsOldFaultBefore most rest fault
    → position_of fault ≤ length rest
position_within most rest (BadFrame at) (inl (none, offset)) = offset.within
position_within most rest (BadFrame at) (inr (count, behind, follows, low, cut, is)) = omega (arith, is)
position_within most rest (EntryTooLong at) (is, h) = omega (arith, is)
position_within most rest (BadEntry at fault) (is, h) = omega (arith, is)
position_within most rest (NotCanonical at) (is, h) = omega (arith, is)
position_within most rest (NotAscending at) h = absurd h

-- where no counted octets come first, no old entry does
pub old_count_fault : (most : ℕ) (text : List ℕ) (fault : ArchiveFault) → IsCountFault most text fault
    → IsOldFaultBefore most text fault
old_count_fault most text (BadFrame at) h = h
old_count_fault most text (EntryTooLong at) h = h
old_count_fault most text (BadEntry at fault) h = absurd h
old_count_fault most text (NotCanonical at) h = absurd h
old_count_fault most text (NotAscending at) h = absurd h

-- counted from the start of the text of the entries before it
pub fault_after : (last : Option EntryView) (offset : ℕ) (rest : List ℕ) (fault : ArchiveFault)
    → IsOldFaultBefore ENTRY_MAX rest fault
    → IsFaultAfter last offset rest (later offset fault)
fault_after last offset rest (BadFrame at) h es ascending is_last start = (at, h, ap (λ (m : ℕ). m + at) start)
fault_after last offset rest (EntryTooLong at) (is, h) es ascending is_last start = (omega (arith, is, start), h)
fault_after last offset rest (BadEntry at fault) (is, h) es ascending is_last start =
    (omega (arith, is, start), (refl, h))
fault_after last offset rest (NotCanonical at) (is, h) es ascending is_last start =
    (omega (arith, is, start), (refl, h))
fault_after last offset rest (NotAscending at) h es ascending is_last start = absurd h

not_above : (last : Option EntryView) (es : List Entry) (e : Entry) → IsAscending es → IsLast last es
    → ¬ (IsAboveLast last e) → ¬ (IsAscending (es ++ e ∷ []))
not_above None es e ascending is_last none also = none tt
not_above (Some last) es e ascending (fs, is) none also =
    not_after fs (entry_of last) e (subst IsAscending is ascending) none
    (subst (λ xs. IsAscending (xs ++ e ∷ [])) is also)

-- an entry that is not above the last one
pub not_ascending_after : (last : Option EntryView) (offset : ℕ) (rest behind : List ℕ) (e : Entry)
    → BeginsWithOldEntry ENTRY_MAX rest e behind → ¬ (IsAboveLast last e)
    → IsFaultAfter last offset rest (NotAscending offset)
not_ascending_after last offset rest behind e h none es ascending is_last start =
    (start, (e, h.entry, (h.carries, h.fits, (behind, h.parts)), not_above last es e ascending is_last none))

-- ---- a record is added

pub adds_new : (o : Entry) (s : ViewParts) (before after : List Entry) (added : Added) → IsOldEntry o
    → IsViewOf o.octets s
    → ((b : List ℕ) → IsViewOf b s → (r : Parts ℤ) × WellFormed r b × AddsRecord r before after added)
    → AddsNew o before after
adds_new o s before after added (p, old) seen adds x =
    let done = adds o.octets seen in
    let r = done.0 in
    let e = done.2.0 in
    let has = adds_has e before after added done.2.2 x in (
      λ h.
          elim (has.0 h) [
            | inl same ↦ inl (subst (IsNewEntryOf o) same
                (p, r, old, well_formed_new_form p r o.octets old.valid old.canonical done.1, done.2.1))
            | inr more ↦ inr more
          ],
      λ h.
          elim h [
            | inl (p', q, old', new, entry) ↦
                let same : q ≡ r = one_meaning q r o.octets
                (new_form_well_formed p' q o.octets old'.valid old'.canonical new) done.1 in
                has.1 (inl (one_entry_of r e x done.2.1 (subst (λ z. IsEntryOf z x) same entry)))
            | inr more ↦ has.1 (inr more)
          ],
    )

-- ---- the text so far

-- what was read of a text and added, and the last entry
pub record SoFar (text rest : List ℕ) (last : Option EntryView) (before after : List Entry) : Type 0 where
  pub olds : List Entry
  pub archive : IsOldArchive ENTRY_MAX olds
  pub parts : text ≡ text_of olds ++ rest
  pub is_last : IsLast last olds
  pub added : AddsMigrated olds before after

pub nothing_yet : (text : List ℕ) (before : List Entry) → SoFar text text None before before
nothing_yet text before = record {
  olds = [];
  archive = record { ascending = tt; entries = tt; fits = tt };
  parts = refl;
  is_last = refl;
  added = λ x. (λ h. inr h, λ h. elim h [ inl (o, has, new) ↦ absurd has | inr more ↦ more ]);
}

above_ascends : (last : Option EntryView) (es : List Entry) (e : Entry) → IsAscending es → IsLast last es
    → IsAboveLast last e → IsAscending (es ++ e ∷ [])
above_ascends None es e ascending is above = subst (λ xs. IsAscending (xs ++ e ∷ [])) (sym is) (tt, tt)
above_ascends (Some last) es e ascending (fs, is) above =
    subst (λ xs. IsAscending (xs ++ e ∷ [])) (sym is)
    (ascending_after fs (entry_of last) e (subst IsAscending is ascending) above)

migrated_more : (olds : List Entry) (o : Entry) (before mid after : List Entry) → AddsMigrated olds before mid
    → AddsNew o mid after → AddsMigrated (olds ++ o ∷ []) before after
migrated_more olds o before mid after added adds x = (
  λ h.
      elim ((adds x).0 h) [
        | inl new ↦ inl (o, has_right olds (o ∷ []) o (inl refl), new)
        | inr there ↦
            elim ((added x).0 there) [
              | inl (p, has, new) ↦ inl (p, has_left olds (o ∷ []) p has, new)
              | inr more ↦ inr more
            ]
      ],
  λ h.
      elim h [
        | inl (p, has, new) ↦
            elim (has_either olds (o ∷ []) p has) [
              | inl left ↦ (adds x).1 (inr ((added x).1 (inl (p, left, new))))
              | inr (inl same) ↦ (adds x).1 (inl (subst (λ z. IsNewEntryOf z x) (sym same) new))
              | inr (inr none) ↦ absurd none
            ]
        | inr more ↦ (adds x).1 (inr ((added x).1 (inr more)))
      ],
)

-- one entry more
pub one_more_entry : (text rest behind : List ℕ) (last : Option EntryView) (v : EntryView)
    (before mid after : List Entry) → SoFar text rest last before mid
    → BeginsWithOldEntry ENTRY_MAX rest (entry_of v) behind → IsAboveLast last (entry_of v)
    → AddsNew (entry_of v) mid after → SoFar text behind (Some v) before after
one_more_entry text rest behind last v before mid after h begins above adds = record {
  olds = h.olds ++ entry_of v ∷ [];
  archive = old_archive_from ENTRY_MAX h.olds (entry_of v) h.archive begins.entry begins.fits
      (above_ascends last h.olds (entry_of v) h.archive.ascending h.is_last above);
  parts = text_goes_on h.olds (entry_of v) text rest behind h.parts begins.parts;
  is_last = (h.olds, refl);
  added = migrated_more h.olds (entry_of v) before mid after h.added adds;
}

-- nothing is left
pub all_migrated : (text rest : List ℕ) (last : Option EntryView) (before after : List Entry)
    → SoFar text rest last before after → length rest ≡ 0 → Migrates text before after
all_migrated text [] last before after h none = (h.olds, h.archive, h.parts ∙ append-nil (text_of h.olds), h.added)
all_migrated text (x ∷ rest) last before after h none = absurd (omega (arith, none))

-- the rest begins with no further entry
pub fault_of_text : (text rest : List ℕ) (last : Option EntryView) (before after : List Entry) (fault : ArchiveFault)
    → SoFar text rest last before after
    → 0 < length rest → IsFaultAfter last (length text - length rest) rest fault
    → IsOldArchiveFault ENTRY_MAX text fault
fault_of_text text rest last before after fault h some bad =
    old_archive_fault ENTRY_MAX text h.olds rest fault (omega arith) h.archive h.parts some
    (bad h.olds h.archive.ascending h.is_last (omega (arith, ap length h.parts, length-append (text_of h.olds) rest)))

-- what holds where there is no error
pub when_ok : {T E : Type 0} (r : Result T E) (P : Type 0) → is_err r ≡ false → OnOk r P → P
when_ok (Ok x) P none h = h
when_ok (Err x) P none h = absurd cc
