-- What a file was found to be.
use Rattle.std.proofs.Common.{◌≡◌, ℕ, List, Option, None, Some, inl, inr, refl, sym, subst}
use Rattle.std.specs.Prelude.{Err, IfErr, IfOk, IsSomeAnd, Ok, Result}
use Rattle.disk.specs.States.{Files}
use Rattle.octet_devices.specs.Device.{InputState}
use Rattle.record_store.specs.Names.{IsJournal, IsSegment}
use Rattle.record_store.proofs.Named.{not_both}
use Rattle.store_reading.specs.Damages.{IsDamagedArchive, IsDamagedJournal, OfLeft, Tells}
use Rattle.store_reading.specs.Days.{IsPeriodText}
use Rattle.store_reading.specs.Folders.{Opens}
use Rattle.store_reading.specs.Journals.{IsJournalFile}
use Rattle.store_reading.specs.declared.fault.CheckFault.{CheckFault}
use Rattle.store_reading.specs.declared.fault.CheckFault.TheVariants.{Damaged as Is_damaged, Input, Memory}
use Rattle.store_reading.specs.declared.fault.FileFault.{FileFault}
use Rattle.store_reading.specs.declared.journal_file.JournalFile.{JournalFile}
use Rattle.store_reading.proofs.Hashed.{damaged_segment}
use Rattle.store_upkeep.specs.Damages.{IsToldAt}
use Rattle.store_upkeep.proofs.Verdicts.{day_named, journal_verdict, segment_verdict}
use Rattle.store_statistics.specs.Files.{IsFileWith, IsJournalWith, IsSegmentWith}
use Rattle.store_statistics.specs.Looks.{IsSeenAt, IsSeenBy}
use Rattle.store_statistics.specs.declared.figures.Figures.{Figures}
use Rattle.store_statistics.specs.declared.look.Look.{Look}
use Rattle.store_statistics.specs.declared.look.Look.TheVariants.{Nothing}

-- ---- a file that was counted

some_where : (o left : Option (List ℕ)) (P : List ℕ → Type 0) → IsSomeAnd o (λ octets. left ≡ Some octets)
    → ((file : List ℕ) → left ≡ Some file → P file) → IsSomeAnd o (λ file. P file)
some_where None left P opened of = absurd opened
some_where (Some file) left P opened of = of file opened

some_then : (o : Option (List ℕ)) (P Q : List ℕ → Type 0) → ((file : List ℕ) → P file → Q file) → IsSomeAnd o P
    → IsSomeAnd o Q
some_then None P Q then some = absurd some
some_then (Some file) P Q then some = then file some

module _ (files : Files) (name period : List ℕ) (d : InputState) (text : IsPeriodText period)
    (segment : IsSegment period name) (opened : Opens files name d) where
  with_segment : (file : List ℕ) (f : Figures) → IsSegmentWith period file f → IsFileWith name file f
  with_segment file f is = record {
    counts = inr (period, text, segment);
    journal = λ journal. absurd (not_both period name journal segment);
    segment = λ other dated named. subst (λ (p : List ℕ). IsSegmentWith p file f)
        (day_named period other name segment named) is;
  }

  told_segment : (damage : FileFault)
      → OfLeft d (λ file. IsDamagedArchive period file damage) → IsToldAt files name damage
  told_segment damage told =
      segment_verdict {E = CheckFault} files name period d (Is_damaged damage) (Ok (Some damage)) text segment opened
      (λ file left. damaged_segment period name file (Is_damaged damage) (told file left)) refl

  pub segment_seen : {E : Type 0} (counted : Result Figures CheckFault) (r : Result Look E)
      → IfOk counted (λ f. OfLeft d (λ file. IsSegmentWith period file f))
      → IfErr counted (λ fault. OfLeft d (λ file. Tells fault (IsDamagedArchive period file)))
      → IfOk r (IsSeenBy counted) → IfOk r (λ look. IsSeenAt look files name)
  segment_seen counted (Err e) whole bad by = tt
  segment_seen (Ok f) (Ok look) whole bad by =
      subst (λ (l : Look). IsSeenAt l files name) (sym by)
      (some_where (files name) d.left (λ (file : List ℕ). IsFileWith name file f) opened
      (λ file left. with_segment file f (whole file left)))
  segment_seen (Err (Is_damaged damage)) (Ok look) whole bad by =
      subst (λ (l : Look). IsSeenAt l files name) (sym by) (told_segment damage bad)
  segment_seen (Err (Input fault)) (Ok look) whole bad by = absurd by
  segment_seen (Err Memory) (Ok look) whole bad by = absurd by

module _ (files : Files) (name : List ℕ) (read : JournalFile) (journal : IsJournal name)
    (given : IsSomeAnd (files name) (IsJournalFile read)) where
  with_journal : (file : List ℕ) (f : Figures) → IsJournalWith file f → IsFileWith name file f
  with_journal file f is = record {
    counts = inl journal;
    journal = λ named. is;
    segment = λ period dated named. absurd (not_both period name journal named);
  }

  pub journal_seen : {E : Type 0} (counted : Result Figures CheckFault) (r : Result Look E)
      → IfOk counted (λ f. (file : List ℕ) → IsJournalFile read file → IsJournalWith file f)
      → IfErr counted (λ fault. (file : List ℕ) → IsJournalFile read file → Tells fault (IsDamagedJournal file))
      → IfOk r (IsSeenBy counted) → IfOk r (λ look. IsSeenAt look files name)
  journal_seen counted (Err e) whole bad by = tt
  journal_seen (Ok f) (Ok look) whole bad by =
      subst (λ (l : Look). IsSeenAt l files name) (sym by)
      (some_then (files name) (IsJournalFile read) (λ file. IsFileWith name file f)
      (λ file is. with_journal file f (whole file is)) given)
  journal_seen (Err (Is_damaged damage)) (Ok look) whole bad by =
      subst (λ (l : Look). IsSeenAt l files name) (sym by)
      (journal_verdict {E = CheckFault} files name read (Is_damaged damage) (Ok (Some damage)) journal given bad refl)
  journal_seen (Err (Input fault)) (Ok look) whole bad by = absurd by
  journal_seen (Err Memory) (Ok look) whole bad by = absurd by

-- ---- a file that does not count

pub seen_other : (files : Files) (name : List ℕ) → (IsJournal name → ⊥)
    → ((period : List ℕ) → IsPeriodText period → IsSegment period name → ⊥) → IsSeenAt Nothing files name
seen_other files name no_journal no_segment (inl journal) some = no_journal journal
seen_other files name no_journal no_segment (inr (period, text, segment)) some = no_segment period text segment
