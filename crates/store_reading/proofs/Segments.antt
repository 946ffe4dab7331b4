-- Segments are read, and opened.
use Rattle.std.proofs.Common.{◌≡◌, ◌⊎◌, ℕ, List, [], ◌∷◌, ◌++◌, Option, None, Some, inl, inr, refl, sym, ap}
use Rattle.std.proofs.Common.{subst, ◌∙◌}
use Rattle.std.proofs.Common.{arith}
use Rattle.std.specs.Prelude.{ℤ, Contains, Err, IfOk, IsSomeAnd, Ok, Result}
use Rattle.disk.specs.States.{Files}
use Rattle.octet_devices.specs.Device.{InputState}
use Rattle.archive_text.specs.Entries.{Entry, Has}
use Rattle.archive_text.specs.Text.{IsArchive, text_of}
use Rattle.archive_text.specs.declared.limits.TheConstants.{ENTRY_MAX}
use Rattle.archive_text.proofs.Texts.{same_text}
use Rattle.archive_join.specs.Holders.{IsHeld}
use Rattle.record_store.specs.Holdings.{IsOfPeriod, SegmentHas}
use Rattle.record_store.specs.Names.{IsSegment}
use Rattle.record_store.specs.Segments.{segment_name}
use Rattle.store_reading.specs.Damages.{OfLeft}
use Rattle.store_reading.specs.Days.{MayHave}
use Rattle.store_reading.specs.Folders.{IsUnused, Opens}
use Rattle.store_reading.specs.Segments.{AreSegmentsOf, HasAsSegment, IsSegmentInput, NamesHave}
use Rattle.store_reading.specs.Whole.{IsWholeSegment}
use Rattle.store_reading.proofs.Held.{no_name, some_before, some_either, some_last}
use Rattle.store_reading.proofs.Joined.{archives_push, held_push}

-- ---- an entry

-- the instant is that of an entry
pub of_instant : (period : List ℕ) (i : Option ℤ) (e : Entry) → i ≡ e.instant → MayHave period i → IsOfPeriod period e
of_instant period i e same may = subst (MayHave period) same may

pub not_of_instant : (period : List ℕ) (i : Option ℤ) (e : Entry) → i ≡ e.instant → ¬ (MayHave period i)
    → ¬ (IsOfPeriod period e)
not_of_instant period i e same not of = not (subst (MayHave period) (sym same) of)

-- ---- a segment is opened

segment_at : (files : Files) (name day : List ℕ) (c d : InputState) (o : Option (List ℕ)) → files name ≡ o
    → IsSomeAnd o (λ octets. c.left ≡ Some octets) → OfLeft c (IsWholeSegment day name)
    → IsSomeAnd o (λ octets. d.left ≡ Some octets) → IsUnused d → IsSegmentInput files name day d
segment_at files name day c d None is opened whole again unused = absurd opened
segment_at files name day c d (Some file) is opened whole again unused =
    let w = whole file opened in
    record {
      entries = w.entries;
      input = record { unused = unused; left = again ∙ ap Some w.archive.text_is; archive = w.archive.archive };
      file = is ∙ ap Some w.archive.text_is;
      days = w.archive.days;
      named = w.named ∙ ap (segment_name day) w.archive.text_is;
    }

pub segment_input : (files : Files) (name day : List ℕ) (c d : InputState) → Opens files name c
    → OfLeft c (IsWholeSegment day name) → Opens files name d → IsUnused d → IsSegmentInput files name day d
segment_input files name day c d opened whole again unused =
    segment_at files name day c d (files name) refl opened whole again unused

-- once it was checked, and the files stayed the same
pub input_result : {F E : Type 0} (state : F → InputState) (files mid : Files) (name day : List ℕ) (d : InputState)
    (r : Result F E) → mid ≡ files → Opens files name d → OfLeft d (IsWholeSegment day name)
    → IfOk r (λ file. Opens mid name (state file)) → IfOk r (λ file. IsUnused (state file))
    → IfOk r (λ file. IsSegmentInput files name day (state file))
input_result state files mid name day d (Err e) same opened whole again unused = tt
input_result state files mid name day d (Ok file) same opened whole again unused =
    segment_input files name day d (state file) opened whole
    (subst (λ (f : Files). Opens f name (state file)) same again) unused

-- ---- the segments of a day

pub segments_none : (files : Files) (day : List ℕ) → AreSegmentsOf files [] day []
segments_none files day = record {
  entries = [];
  inputs = tt;
  have = λ e. (λ h. absurd h, λ h. absurd (no_name (λ (n : List ℕ). HasAsSegment files day n e) h));
}

pub segments_other : (files : Files) (names : List (List ℕ)) (name day : List ℕ) (ds : List InputState)
    → AreSegmentsOf files names day ds → ¬ (IsSegment day name) → AreSegmentsOf files (names ++ name ∷ []) day ds
segments_other files names name day ds s not = record {
  entries = s.entries;
  inputs = s.inputs;
  have = λ e. (
    λ h. some_before names name (λ (n : List ℕ). HasAsSegment files day n e) ((s.have e).0 h),
    λ h. elim (some_either names name (λ (n : List ℕ). HasAsSegment files day n e) h) [
      | inl before ↦ (s.have e).1 before
      | inr last ↦ absurd (not last.0)
    ],
  );
}

pub has_is : (day : List ℕ) (xs : List Entry) (e : Entry) → IsArchive ENTRY_MAX xs → SegmentHas day (text_of xs) e
    → Has xs e
has_is day xs e archive h =
    subst (λ (l : List Entry). Has l e) (same_text ENTRY_MAX ENTRY_MAX h.entries xs (omega arith) (omega arith)
    h.archive archive
    (sym h.text_is)) h.has

pub segments_more : (files : Files) (names : List (List ℕ)) (name day : List ℕ) (ds : List InputState) (d : InputState)
    → AreSegmentsOf files names day ds → IsSegment day name → IsSegmentInput files name day d
    → AreSegmentsOf files (names ++ name ∷ []) day (ds ++ d ∷ [])
segments_more files names name day ds d s segment i = record {
  entries = s.entries ++ i.entries ∷ [];
  inputs = archives_push ds s.entries d i.entries s.inputs i.input;
  have = λ e. (
    λ h. there e ((held_push s.entries i.entries e).0 h),
    λ h. (held_push s.entries i.entries e).1
        (back e h),
  );
}
  where
    there : (e : Entry) → IsHeld s.entries e ⊎ Has i.entries e → NamesHave files (names ++ name ∷ []) day e
    there e (inl h) = some_before names name (λ (n : List ℕ). HasAsSegment files day n e) ((s.have e).0 h)
    there e (inr h) =
        some_last names name (λ (n : List ℕ). HasAsSegment files day n e) (
          segment,
          subst (λ (o : Option (List ℕ)). IsSomeAnd o (λ file. SegmentHas day file e)) (sym i.file) (record {
            entries = i.entries;
            archive = i.input.archive;
            text_is = refl;
            days = i.days;
            has = h;
          }),
        )

    back : (e : Entry) → NamesHave files (names ++ name ∷ []) day e → IsHeld s.entries e ⊎ Has i.entries e
    back e h =
        elim (some_either names name (λ (n : List ℕ). HasAsSegment files day n e) h) [
          | inl before ↦ inl ((s.have e).1 before)
          | inr last ↦ inr (has_is day i.entries e i.input.archive
              (subst (λ (o : Option (List ℕ)). IsSomeAnd o (λ file. SegmentHas day file e)) i.file last.1))
        ]

-- the segments that are among some names are all of the day that are among others
pub segments_among : (files : Files) (names some : List (List ℕ)) (day : List ℕ) (ds : List InputState)
    → ((name : List ℕ) → Contains some name → Contains names name)
    → ((name : List ℕ) → Contains names name → IsSegment day name → Contains some name)
    → AreSegmentsOf files some day ds → AreSegmentsOf files names day ds
segments_among files names some day ds within all s = record {
  entries = s.entries;
  inputs = s.inputs;
  have = λ e. (
    λ h. let n = (s.have e).0 h in (n.0, within n.0 n.1, n.2),
    λ n. (s.have e).1 (n.0, all n.0 n.1 n.2.0, n.2),
  );
}
