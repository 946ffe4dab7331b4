-- What was written of a set.
use Rattle.std.specs.Prelude.{◌≡◌, ℕ, ◌^◌, ◌<◌, List, length, take, Result, Ok, Err}
use Rattle.std.specs.Io.KnownBytes.{Appends}
use Rattle.octet_devices.specs.Device.{OutputState}
use Rattle.octet_devices.specs.Transfers.{WroteAll}
use Rattle.archive_spill.specs.declared.fault.SpillFault.{SpillFault}
use Rattle.archive_spill.specs.declared.fault.SpillFault.TheVariants.{TooLong, Spill, Output, Memory}

-- the output took a prefix of a text, and did not fail
pub record WrotePrefix (old new : OutputState) (text : List ℕ) : Type 0 where
  pub n : ℕ
  pub octets : Appends old.taken new.taken (take n text)
  pub no_failure : new.failures ≡ old.failures

-- the output took a prefix of a text, and not all of it, and then it failed
pub record WroteLess (old new : OutputState) (text : List ℕ) : Type 0 where
  pub n : ℕ
  pub some_left : n < length text
  pub octets : Appends old.taken new.taken (take n text)
  pub cause : old.failures < 2 ^ 63 → old.failures < new.failures

-- a fault is one of the runs, or want of memory
abbrev pub IsOfRuns : {A : Type 0} → Result A SpillFault → Type 0
IsOfRuns (Ok x) = Unit {0}
IsOfRuns (Err Spill) = Unit {0}
IsOfRuns (Err Memory) = Unit {0}
IsOfRuns (Err Output) = ⊥
IsOfRuns (Err TooLong) = ⊥

-- a text was written; or a prefix of it, and the fault says whether the output failed
abbrev pub WritesOut : {A : Type 0} → OutputState → OutputState → List ℕ → Result A SpillFault → Type 0
WritesOut old new text (Ok x) = WroteAll old new text
WritesOut old new text (Err Output) = WroteLess old new text
WritesOut old new text (Err Spill) = WrotePrefix old new text
WritesOut old new text (Err Memory) = WrotePrefix old new text
WritesOut old new text (Err TooLong) = ⊥
