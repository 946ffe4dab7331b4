-- What a run of a session over devices does.
use Rattle.std.specs.Prelude.{◌≡◌, ℕ, ◌+◌, ◌*◌, ◌^◌, ◌≤◌, ◌<◌, ◌⊎◌, List, [], ◌++◌, length, Option, Some, None, codes}
use Rattle.std.specs.Io.KnownBytes.{Appends, Consumes}
use Rattle.octet_devices.specs.Device.{InputState, AreSmall}
use Rattle.octet_devices.specs.Transfers.{WroteAll}
use Rattle.octet_devices.specs.declared.loops.TheConstants.{READ_MAX, READER_CALLS}
use Rattle.driver.specs.Devices.{Devices, InputFailed, IsEndlessIn, IsLeft, OutputFailed, Wrote}
use Rattle.driver.specs.Effects.{Done, IsPrefixOf, status_of}
use Rattle.driver.specs.Sessions.{Meaning, HasOneOutput, most_octets}
use Rattle.driver.specs.declared.limits.ReadLimit.{ReadLimit}
use Rattle.driver.specs.declared.limits.ReadLimit.TheVariants.{Standard, Unlimited}
use Rattle.driver.specs.declared.limits.TheConstants.{ENDLESS_CALLS, ENDLESS_READ_MAX}
use Rattle.driver.specs.declared.stopped.Stopped.{Stopped}
use Rattle.driver.specs.declared.stopped.Stopped.TheVariants.{Read, Endless, Write, Diagnostics, Memory}
use Rattle.driver.specs.declared.status.TheConstants.{FAULT, NO_MEMORY}

-- how much of an input a run reads: so many octets a call at most, in so many calls
pub record Limits : Type 0 where
  pub octets : ℕ
  pub calls : ℕ

-- with room for this piece, and so many calls
abbrev pub limits_of : List ℕ → ℕ → Limits
limits_of piece calls = record { octets = length piece; calls = calls }

-- a call may give something, and a session may take all that the calls give
pub record AreLawful (limits : Limits) : Type 0 where
  pub some : 0 < limits.octets
  pub fits : limits.octets * limits.calls ≤ most_octets
  pub few : limits.calls < 2 ^ 63

-- what a run reads at most
abbrev pub standard : Limits
standard = record { octets = READ_MAX; calls = READER_CALLS }

-- the same of an input that may be as long as it likes
abbrev pub endless : Limits
endless = record { octets = ENDLESS_READ_MAX; calls = ENDLESS_CALLS }

abbrev pub limits_by : ReadLimit → Limits
limits_by Standard = standard
limits_by Unlimited = endless

-- what an input gave in some calls: with all but what the last of them gave the session went on, and each of the others
-- gave octets. So at most what one call gives lies beyond the octets that the session needed
pub record Needed (limits : Limits) (M : Meaning) (old new : InputState) : Type 0 where
  pub before : List ℕ
  pub last : List ℕ
  pub done : Done
  pub consumed : Consumes old.left new.left (before ++ last)
  pub means : M.so_far before done
  pub few : length last ≤ limits.octets
  pub each : new.calls ≤ old.calls + length before + 1

-- an input gave octets with which the session went on
pub record WentOn (M : Meaning) (old new : InputState) : Type 0 where
  pub given : List ℕ
  pub done : Done
  pub consumed : Consumes old.left new.left given
  pub means : M.so_far given done

-- how an input was used: it was called so often at most, not behind its end or a failure, and not where no more of it was
-- needed. Each call may fail, so that it failed only behind octets with which the session went on says the same
pub record Used (limits : Limits) (M : Meaning) (old new : InputState) : Type 0 where
  pub calls : AreSmall old → new.calls ≤ old.calls + limits.calls
  pub ends : new.ends ≤ old.ends + 1
  pub ended : old.ends < new.ends → new.failures ≡ old.failures
  pub needed : AreSmall old → Needed limits M old new
  pub failed : old.failures < new.failures → WentOn M old new

-- exactly what comes of the whole input was written
pub record Answers (M : Meaning) (old new : Devices) (status : ℕ) : Type 0 where
  pub input : List ℕ
  pub done : Done
  pub is_input : IsLeft old.input.left input
  pub means : M.whole input done
  pub wrote : Wrote old new done.output done.diagnostics
  pub no_failure : new.input.failures ≡ old.input.failures
  pub status_is : status ≡ status_of done

-- exactly what comes of the octets that were read was written, and then a line
pub record AnswersPart (P : List ℕ → Done → Type 0) (line : List ℕ) (old new : Devices) : Type 0 where
  pub given : List ℕ
  pub done : Done
  pub consumed : Consumes old.input.left new.input.left given
  pub means : P given done
  pub wrote : Wrote old new done.output (done.diagnostics ++ line)

-- this comes of the octets that were read: of a whole input, or of its first octets
abbrev pub ComesOf : Meaning → InputState → InputState → Done → Type 0
ComesOf M old new d =
    ((input : List ℕ) × IsLeft old.left input × M.whole input d)
    ⊎ ((given : List ℕ) × Consumes old.left new.left given × (M.so_far given d ⊎ M.part given d))

-- the output failed: of what comes of the octets that were read it took a part, and not all. The diagnostics did not
-- fail, and all that comes of these octets stands there before a line
pub record WriteFailedWith (M : Meaning) (line : List ℕ) (old new : Devices) : Type 0 where
  pub failed : OutputFailed old.output new.output
  pub done : Done
  pub sent : List ℕ
  pub unsent : List ℕ
  pub comes : ComesOf M old.input new.input done
  pub parts : done.output ≡ sent ++ unsent
  pub some_left : 0 < length unsent
  pub to_output : Appends old.output.taken new.output.taken sent
  pub to_diagnostics : WroteAll old.diagnostics new.diagnostics (done.diagnostics ++ line)

-- the cause of a stop, and what was written
abbrev pub IsStopped : Limits → Stopped → Meaning → List ℕ → Devices → Devices → Type 0
IsStopped limits Read M line old new = InputFailed old.input new.input × AnswersPart M.so_far line old new
IsStopped limits Endless M line old new = IsEndlessIn limits.calls old.input new.input × AnswersPart M.so_far line old new
IsStopped limits Write M line old new = WriteFailedWith M line old new
IsStopped limits Diagnostics M line old new = OutputFailed old.diagnostics new.diagnostics
IsStopped limits Memory M line old new =
    (new.input.failures ≡ old.input.failures) × AnswersPart M.part line old new

-- the last line of the diagnostics
abbrev pub line_of : Stopped → List ℕ
line_of Read = codes "read fault\n"
line_of Endless = codes "endless input\n"
line_of Write = codes "write fault\n"
line_of Diagnostics = []
line_of Memory = codes "want of memory\n"

-- the exit status of a stop
abbrev pub stop_status : Stopped → ℕ
stop_status Memory = NO_MEMORY
stop_status _ = FAULT

-- how a run ended: with an answer, or by a stop
abbrev pub EndsWithin : Limits → Option Stopped → Meaning → Devices → Devices → ℕ → Type 0
EndsWithin limits None M old new status = Answers M old new status
EndsWithin limits (Some stop) M old new status =
    (status ≡ stop_status stop) × IsStopped limits stop M (line_of stop) old new

abbrev pub EndsAs : Option Stopped → Meaning → Devices → Devices → ℕ → Type 0
EndsAs ending M old new status = EndsWithin standard ending M old new status

-- a prefix of the output of the whole input was written
abbrev pub WritesPrefix : Meaning → Devices → Devices → Type 0
WritesPrefix M old new = (input : List ℕ) (d : Done) → old.input.left ≡ Some input → M.whole input d
    → (sent : List ℕ) × IsPrefixOf sent d.output × Appends old.output.taken new.output.taken sent

-- what a run does that reads so much at most, whatever the devices do
pub record RanWithin (limits : Limits) (M : Meaning) (old new : Devices) (status : ℕ) : Type 0 where
  pub ending : Option Stopped
  pub outcome : EndsWithin limits ending M old new status
  pub begins : HasOneOutput M → WritesPrefix M old new
  pub used : Used limits M old.input new.input

-- what a run does, whatever the devices do
abbrev pub Ran : Meaning → Devices → Devices → ℕ → Type 0
Ran M old new status = RanWithin standard M old new status
