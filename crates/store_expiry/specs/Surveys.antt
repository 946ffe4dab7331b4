-- What a segment has.
use Rattle.std.specs.Prelude.{◌≡◌, ◌⊎◌, ℕ, List, None, Some, IfSome, IsTrue, false, length}
use Rattle.disk.specs.States.{Files}
use Rattle.hex.specs.Hex.{encode_lower}
use Rattle.sha2.specs.Sha256.{sha256}
use Rattle.octet_devices.specs.Device.{InputState}
use Rattle.octet_devices.specs.Held.{counted}
use Rattle.archive_text.specs.Entries.{Entry, Has}
use Rattle.archive_text.specs.Text.{IsArchive, text_of}
use Rattle.archive_text.specs.declared.limits.TheConstants.{ENTRY_MAX}
use Rattle.archive_sets.specs.Selections.{IsSelection}
use Rattle.record_store.specs.Holdings.{IsOfPeriod}
use Rattle.record_store.specs.Names.{IsSegment}
use Rattle.record_store.specs.Segments.{IsSegmentOf, segment_name}
use Rattle.store_reading.specs.Days.{IsPeriodText}
use Rattle.store_reading.specs.Segments.{IsWholeOf}
use Rattle.store_reading.specs.Whole.{IsWholeSegment}
use Rattle.store_expiry.specs.Expired.{IsExpired}
use Rattle.store_expiry.specs.declared.expired.Expired.{Expired}
use Rattle.store_expiry.specs.declared.survey.Found.{Found}
use Rattle.store_expiry.specs.declared.survey.Survey.{Survey}
use Rattle.store_expiry.specs.declared.tally.Tally.{Tally}

-- some entry is expired
pub record SomeExpired (x : Expired) (es : List Entry) : Type 0 where
  pub some : Entry
  pub has : Has es some
  pub expired : IsExpired x some

-- how many entries there are, and whether some are expired, and some are not
pub record IsTallyOf (x : Expired) (es : List Entry) (t : Tally) : Type 0 where
  pub records : t.records ≡ counted (length es)
  pub some : IsTrue t.expired → SomeExpired x es
  pub none : t.expired ≡ false → (e : Entry) → Has es e → ¬ (IsExpired x e)
  pub all : t.left ≡ false → (e : Entry) → Has es e → IsExpired x e

-- how many entries there are, how many octets their text has, and its SHA-256
pub record IsSurveyOf (x : Expired) (es : List Entry) (s : Survey) : Type 0 where
  pub tally : IsTallyOf x es s.tally
  pub records : s.tally.records ≡ length es
  pub octets : s.octets ≡ length (text_of es)
  pub digest : s.hex ≡ encode_lower (sha256 (text_of es))

-- an input was read to its end, and is an archive of entries of the period, of which this is the survey
pub record IsSurveyed (x : Expired) (period : List ℕ) (d e : InputState) (s : Survey) : Type 0 where
  pub segment : IsWholeOf period d e
  pub is : IsSurveyOf x segment.entries s

-- the file under a name is a whole segment of these entries
pub record IsSegmentFile (files : Files) (name period : List ℕ) (es : List Entry) : Type 0 where
  pub file : files name ≡ Some (text_of es)
  pub segment : IsSegment period name
  pub archive : IsSegmentOf period (text_of es) es
  pub named : name ≡ segment_name period (text_of es)

-- and some of them are expired
pub record HasExpired (x : Expired) (files : Files) (name period : List ℕ) (es : List Entry) : Type 0 where
  pub is_file : IsSegmentFile files name period es
  pub some : SomeExpired x es

-- the file under a name is a whole segment that has something expired
abbrev pub IsExpiredAt : Expired → Files → List ℕ → Type 0
IsExpiredAt x files name = (period : List ℕ) × (es : List Entry) × HasExpired x files name period es

-- there is no file under a name, or a whole segment
abbrev pub IsNoneOrWhole : Files → List ℕ → Type 0
IsNoneOrWhole files name =
    (files name ≡ None) ⊎ ((period : List ℕ) × (es : List Entry) × IsSegmentFile files name period es)

-- these are the entries of a whole segment that are not expired, and others are
pub record IsLeftOver (x : Expired) (files : Files) (period : List ℕ) (left : List Entry) : Type 0 where
  pub source : List ℕ
  pub entries : List Entry
  pub whole : HasExpired x files source period entries
  pub selection : IsSelection (λ e. ¬ (IsExpired x e)) entries left

-- no entry of a period is expired
abbrev pub IsUnexpired : Expired → List ℕ → Type 0
IsUnexpired x period = (e : Entry) → IsOfPeriod period e → ¬ (IsExpired x e)

-- the file under a name, if there is one, is whole where the name is that of a segment, or no entry of its period is
-- expired
abbrev pub IsWholeOrUnexpired : Expired → Files → List ℕ → Type 0
IsWholeOrUnexpired x files name = (period : List ℕ) → IsPeriodText period → IsSegment period name
    → IfSome (files name) (IsWholeSegment period name) ⊎ IsUnexpired x period

-- the file under a name is the archive of these entries
pub record IsArchiveAt (files : Files) (name : List ℕ) (es : List Entry) : Type 0 where
  pub archive : IsArchive ENTRY_MAX es
  pub file : files name ≡ Some (text_of es)

-- the file under a name is a whole segment, and this is its survey
pub record IsSurveyedAt (x : Expired) (files : Files) (name period : List ℕ) (s : Survey) : Type 0 where
  pub entries : List Entry
  pub is_file : IsSegmentFile files name period entries
  pub is : IsSurveyOf x entries s

-- a segment that has an expired entry, and what was found of it
pub record IsFoundAt (x : Expired) (files : Files) (name : List ℕ) (found : Found) : Type 0 where
  pub dated : IsPeriodText found.period
  pub surveyed : IsSurveyedAt x files name found.period found.survey
  pub some : IsTrue found.survey.tally.expired
