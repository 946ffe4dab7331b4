-- Segments are read and hashed.
use Rattle.std.proofs.Common.{◌≡◌, ◌≢◌, ℕ, ◌+◌, List, [], ◌∷◌, ◌++◌, length, Some}
use Rattle.std.proofs.Common.{◌-◌, ◌^◌, min, refl, sym, ap, subst, ◌∙◌, length-append, arith}
use Rattle.std.specs.Prelude.{Err, IfErr, Ok, OnOk, Result, codes}
use Rattle.hex.specs.Hex.{encode_lower}
use Rattle.sha2.specs.Hashers.{Holds256}
use Rattle.sha2.specs.Sha256.{sha256}
use Rattle.sha2.specs.declared.Sha256.{Sha256}
use Rattle.octet_devices.specs.Device.{InputState}
use Rattle.archive_text.specs.Text.{entry_text, text_of}
use Rattle.archive_text.proofs.Members.{all_append}
use Rattle.archive_text.proofs.Texts.{text_push}
use Rattle.archive_streams.specs.Entries.{current, Ends, Reads, ReadsOne}
use Rattle.archive_streams.specs.declared.entries.ArchiveEntries.{ArchiveEntries}
use Rattle.record_store.specs.Holdings.{IsOfPeriod}
use Rattle.record_store.specs.Segments.{IsArchiveOfDay, segment_name}
use Rattle.store_reading.specs.Damages.{IsDamagedArchive, IsDamagedSegment, IsOtherDigest, OfLeft, Tells, position}
use Rattle.store_reading.specs.Segments.{IsHashed, IsNamedBy, ReadsOf}
use Rattle.store_reading.specs.Whole.{IsWholeSegment}
use Rattle.store_reading.specs.declared.fault.CheckFault.{CheckFault}
use Rattle.store_reading.specs.declared.fault.CheckFault.TheVariants.{Damaged, Input, Memory}
use Rattle.store_reading.specs.declared.fault.FileFault.{FileFault}
use Rattle.store_reading.specs.declared.fault.FileFault.TheVariants.{Archive, Digest, Journal, OtherDay}
use Rattle.store_reading.proofs.Damaged.{file_is, other_day, other_day_at}

-- ---- entry by entry

-- entries of the day were read and hashed, up to a position
pub record HashesOf (day : List ℕ) (s : ArchiveEntries) (hasher : Sha256) (at : ℕ) (d e : InputState) : Type 0 where
  pub segment : ReadsOf day s d e
  pub hashed : Holds256 hasher (text_of segment.entries)
  pub place : at ≡ position (length (text_of segment.entries))

pub hashes_none : (day : List ℕ) (s : ArchiveEntries) (hasher : Sha256) (d : InputState) → Reads s d d []
    → Holds256 hasher [] → HashesOf day s hasher 0 d d
hashes_none day s hasher d none empty =
    record { segment = record { entries = []; reads = none; days = tt }; hashed = empty; place = refl }

place_more : (most a b at n later : ℕ) → at ≡ min a most → n ≡ min b most → later ≡ min (at + n) most
    → later ≡ min (a + b) most
place_more most a b at n later one two both = omega arith

pub hashes_more : (day : List ℕ) (s t : ArchiveEntries) (hasher next : Sha256) (at n later : ℕ) (d e f : InputState)
    → HashesOf day s hasher at d e → ReadsOne s t e f → IsOfPeriod day (current t)
    → ((m : List ℕ) → Holds256 hasher m → Holds256 next (m ++ entry_text (current t)))
    → n ≡ position (length (entry_text (current t))) → later ≡ position (at + n) → HashesOf day t next later d f
hashes_more day s t hasher next at n later d e f h one of more size sum = record {
  segment = record {
    entries = h.segment.entries ++ current t ∷ [];
    reads = one.reads d h.segment.entries h.segment.reads;
    days = all_append (IsOfPeriod day) h.segment.entries (current t ∷ []) h.segment.days (of, tt);
  };
  hashed = subst (Holds256 next) (sym (text_push h.segment.entries (current t)))
      (more (text_of h.segment.entries) h.hashed);
  place = place_more (2 ^ 64 - 1) (length (text_of h.segment.entries)) (length (entry_text (current t))) at n later
      h.place size sum
      ∙ ap position (sym (ap length (text_push h.segment.entries (current t))
      ∙ length-append (text_of h.segment.entries) (entry_text (current t))));
}

-- the next entry is of another day
pub other_told : (day : List ℕ) (s t : ArchiveEntries) (hasher : Sha256) (at : ℕ) (d e f : InputState)
    → HashesOf day s hasher at d e → ReadsOne s t e f → ¬ (IsOfPeriod day (current t))
    → OfLeft d (λ file. IsDamagedArchive day file (OtherDay at))
other_told day s t hasher at d e f h one differs file left =
    let reads = one.reads d h.segment.entries h.segment.reads in
    record {
      not_archive = other_day day d f file left t h.segment.entries reads differs;
      told = other_day_at day d f file left t h.segment.entries at reads h.segment.days h.place differs;
    }

-- ---- the end

-- all was read, and this is the digest of what was hashed
pub hashed_of : (day : List ℕ) (s t : ArchiveEntries) (hasher : Sha256) (d e f : InputState) (hex : List ℕ)
    (r : ReadsOf day s d e) → Holds256 hasher (text_of r.entries) → Ends s t e f
    → ((text : List ℕ) → Holds256 hasher text → hex ≡ encode_lower (sha256 text)) → IsHashed day d f hex
hashed_of day s t hasher d e f hex r hashed ends digest = record {
  segment = record { entries = r.entries; whole = ends.whole d r.entries r.reads; days = r.days };
  digest = digest (text_of r.entries) hashed;
}

-- ---- the segment of a name

module _ (day name : List ℕ) (d e : InputState) (hex file : List ℕ) (h : IsHashed day d e hex)
    (left : d.left ≡ Some file) where
  text_is : file ≡ text_of h.segment.entries
  text_is = file_is day d e file h.segment left

  name_is : day ++ 46 ∷ hex ++ codes ".archive" ≡ segment_name day file
  name_is =
      ap (λ (l : List ℕ). day ++ 46 ∷ l ++ codes ".archive")
      (h.digest ∙ ap (λ (t : List ℕ). encode_lower (sha256 t)) (sym text_is))

  archive : IsArchiveOfDay day file
  archive = (
    h.segment.entries,
    record { archive = h.segment.whole.archive; text_is = text_is; days = h.segment.days },
  )

  pub whole_named : IsNamedBy day name hex → IsWholeSegment day name file
  whole_named named = record { entries = archive.0; archive = archive.1; named = named ∙ name_is }

  pub other_digest : (fault : CheckFault) → Tells fault (IsOtherDigest day name hex)
      → Tells fault (IsDamagedSegment day name file)
  other_digest (Damaged fault) told = subst (IsDamagedSegment day name file) (sym told.told) (record {
    not_whole = λ w. told.other (w.named ∙ sym name_is);
    told = (archive, λ is. told.other (is ∙ sym name_is));
  })
  other_digest (Input fault) told = tt
  other_digest Memory told = tt

-- what is no archive of its period is no whole segment
damaged_archive : (day name file : List ℕ) (fault : FileFault) → IsDamagedArchive day file fault
    → IsDamagedSegment day name file fault
damaged_archive day name file (Archive fault) d =
    record { not_whole = λ w. d.not_archive (w.entries, w.archive); told = d.told }
damaged_archive day name file (OtherDay at) d =
    record { not_whole = λ w. d.not_archive (w.entries, w.archive); told = d.told }
damaged_archive day name file Digest d = absurd d.told
damaged_archive day name file (Journal damage) d = absurd d.told

pub damaged_segment : (day name file : List ℕ) (fault : CheckFault) → Tells fault (IsDamagedArchive day file)
    → Tells fault (IsDamagedSegment day name file)
damaged_segment day name file (Damaged fault) told = damaged_archive day name file fault told
damaged_segment day name file (Input fault) told = tt
damaged_segment day name file Memory told = tt

-- what the comparison of the digest says of the segment
pub segment_checked : (day name : List ℕ) (d e : InputState) (hex : List ℕ) (r : Result (Unit {0}) CheckFault)
    → IsHashed day d e hex → OnOk r (IsNamedBy day name hex) → OnOk r (OfLeft d (IsWholeSegment day name))
segment_checked day name d e hex (Ok x) h named = λ file left. whole_named day name d e hex file h left named
segment_checked day name d e hex (Err fault) h named = tt

pub segment_refused : (day name : List ℕ) (d e : InputState) (hex : List ℕ) (r : Result (Unit {0}) CheckFault)
    → IsHashed day d e hex → IfErr r (λ fault. Tells fault (IsOtherDigest day name hex))
    → IfErr r (λ fault. OfLeft d (λ file. Tells fault (IsDamagedSegment day name file)))
segment_refused day name d e hex (Ok x) h told = tt
segment_refused day name d e hex (Err fault) h told = λ file left.
    other_digest day name d e hex file h left fault told
