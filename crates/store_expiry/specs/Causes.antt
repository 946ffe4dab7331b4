-- Why what is expired was not all removed.
use Rattle.std.specs.Prelude.{◌≡◌, ℕ, ◌^◌, ◌<◌, List, Some, MatchResult, Result}
use Rattle.disk.specs.States.{Files}
use Rattle.archive_text.specs.Entries.{Entry, Has}
use Rattle.archive_text.specs.Text.{text_of}
use Rattle.record_store.specs.Names.{IsSegment}
use Rattle.record_store.specs.Segments.{segment_name}
use Rattle.store_reading.specs.Damages.{IsDamagedSegment}
use Rattle.store_reading.specs.declared.fault.FileFault.{FileFault}
use Rattle.store_expiry.specs.Surveys.{IsLeftOver, IsSegmentFile}
use Rattle.store_expiry.specs.declared.expired.Expired.{Expired}
use Rattle.store_expiry.specs.declared.fault.ExpireFault.{ExpireFault}
use Rattle.store_expiry.specs.declared.fault.ExpireFault.TheVariants.{Damaged, Store, Taken, Output}

-- the file under a name is a segment that is damaged so
pub record IsDamagedFile (files : Files) (name : List ℕ) (damage : FileFault) : Type 0 where
  pub period : List ℕ
  pub segment : IsSegment period name
  pub file : List ℕ
  pub there : files name ≡ Some file
  pub damaged : IsDamagedSegment period name file damage

-- a whole segment has an entry that others lack
pub record HasOthers (files : Files) (name period : List ℕ) (left : List Entry) : Type 0 where
  pub entries : List Entry
  pub is_file : IsSegmentFile files name period entries
  pub other : Entry
  pub has : Has entries other
  pub lacks : ¬ (Has left other)

-- a whole segment has the name of what is left of another one, and an entry that this lacks
pub record IsTaken (x : Expired) (files : Files) (name : List ℕ) : Type 0 where
  pub period : List ℕ
  pub left : List Entry
  pub over : IsLeftOver x files period left
  pub named : name ≡ segment_name period (text_of left)
  pub others : HasOthers files name period left

-- a segment that is told as damaged is, a name that is told as taken is, and the output failed where that is told, and
-- only there
abbrev pub IsExpireCause : Expired → Files → ℕ → ℕ → ExpireFault → Type 0
IsExpireCause x files before after (Damaged name damage) = IsDamagedFile files name damage × (after ≡ before)
IsExpireCause x files before after (Store fault) = after ≡ before
IsExpireCause x files before after (Taken name) = IsTaken x files name × (after ≡ before)
IsExpireCause x files before after Output = before < 2 ^ 63 → before < after

-- the output did not fail, or a fault tells why
abbrev pub TellsCause : {A : Type 0} → Expired → Files → ℕ → ℕ → Result A ExpireFault → Type 0
TellsCause x files before after r =
    MatchResult r (λ _. after ≡ before) (λ fault. IsExpireCause x files before after fault)
