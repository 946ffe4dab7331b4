-- A run whose output is held back.
use Rattle.std.specs.Prelude.{◌≡◌, ℕ, ◌+◌, ◌<◌, ◌⊎◌, List, [], ◌++◌, length, Result, MatchResult}
use Rattle.std.specs.Io.KnownBytes.{Appends, Consumes}
use Rattle.octet_devices.specs.Device.{InputState, OutputState}
use Rattle.octet_devices.specs.Transfers.{WroteAll}
use Rattle.driver.specs.Devices.{Devices, InputFailed, IsEndlessIn, IsLeft, OutputFailed, Reports, Wrote}
use Rattle.driver.specs.Effects.{Done, IsWrittenOut, then_done, written}
use Rattle.driver.specs.Run.{Answers, IsStopped, Limits, Used, WritesPrefix, line_of, stop_status}
use Rattle.driver.specs.Sessions.{HasOneOutput, Meaning, with_rest}
use Rattle.driver.specs.declared.stopped.Stopped.{Stopped}
use Rattle.driver.specs.declared.status.TheConstants.{FAULT}
use Rattle.driver.specs.declared.stopped.Stopped.TheVariants.{Read, Endless, Write, Diagnostics, Memory}

-- octets were read, and what comes of them was written but for what is held back
pub record Reached (P : List ℕ → Done → Type 0) (old new : Devices) (held : Done) : Type 0 where
  pub given : List ℕ
  pub output : List ℕ
  pub diagnostics : List ℕ
  pub consumed : Consumes old.input.left new.input.left given
  pub means : P given (then_done (written output diagnostics) held)
  pub wrote : Wrote old new output diagnostics

-- the whole input was answered, but for what is held back and the rest of the output
pub record HoldsAnswer (M : Meaning) (old new : Devices) (held : Done) (rest : List ℕ) : Type 0 where
  pub input : List ℕ
  pub output : List ℕ
  pub diagnostics : List ℕ
  pub is_input : IsLeft old.input.left input
  pub means : M.whole input (with_rest (then_done (written output diagnostics) held) rest)
  pub wrote : Wrote old new output diagnostics
  pub no_failure : new.input.failures ≡ old.input.failures

-- the cause of a stop, where something may be held back
abbrev pub StopsHolding : Limits → Stopped → Meaning → Devices → Devices → Done → Type 0
StopsHolding limits Read M old new held = InputFailed old.input new.input × Reached M.so_far old new held
StopsHolding limits Endless M old new held = IsEndlessIn limits.calls old.input new.input × Reached M.so_far old new held
StopsHolding limits Write M old new held = IsStopped limits Write M [] old new
StopsHolding limits Diagnostics M old new held = IsStopped limits Diagnostics M [] old new
StopsHolding limits Memory M old new held = (new.input.failures ≡ old.input.failures) × Reached M.part old new held

-- what the read loop does
pub record ReadThrough {A : Type 0} (limits : Limits) (M : Meaning) (old new : Devices) (held : Done) (rest : List ℕ)
    (r : Result A Stopped) : Type 0
  where
    pub outcome : MatchResult r (λ _. HoldsAnswer M old new held rest) (λ stop. StopsHolding limits stop M old new held)
    pub begins : HasOneOutput M → WritesPrefix M old new
    pub used : Used limits M old.input new.input

-- what a run does before its last line
pub record Pumped (limits : Limits) (M : Meaning) (old new : Devices) (r : Result ℕ Stopped) : Type 0 where
  pub outcome : MatchResult r (λ status. Answers M old new status) (λ stop. IsStopped limits stop M [] old new)
  pub begins : HasOneOutput M → WritesPrefix M old new
  pub used : Used limits M old.input new.input

-- an input's last call gave a piece; where that came short of the room that it was given, so that the next call may wait
-- for a sender, nothing is held back. The input before that call is a device, not a state that anybody may name
pub record WaitsWrittenOut {R : Type 0} (room : ℕ) (state : R → InputState) (now : R) (held : Done) : Type 0 where
  pub before : R
  pub piece : List ℕ
  pub call : (state now).calls ≡ (state before).calls + 1
  pub gave : Consumes (state before).left (state now).left piece
  pub written : length piece < room → IsWrittenOut held

-- an input is called for the first time, and nothing is held back; or its last call was such a one
abbrev pub IsCalledWrittenOut : {R : Type 0} → ℕ → (R → InputState) → R → R → Done → Type 0
IsCalledWrittenOut room state old now held =
    (((state now).calls ≡ (state old).calls) × IsWrittenOut held) ⊎ WaitsWrittenOut room state now held

-- an input failed at a call, before which it was such a device: each call may fail, so this is said of each
abbrev pub FailsWrittenOut : {R : Type 0} → ℕ → (R → InputState) → R → R → Done → Type 0
FailsWrittenOut {R} room state old new held =
    (called : R) × ((state new).calls ≡ (state called).calls + 1) × IsCalledWrittenOut room state old called held

-- some of what was held back was written, and this is kept
pub record Flushed (o n o_new n_new : OutputState) (held kept : Done) : Type 0 where
  pub output : List ℕ
  pub diagnostics : List ℕ
  pub to_output : WroteAll o o_new output
  pub to_diagnostics : WroteAll n n_new diagnostics
  pub whole : held ≡ then_done (written output diagnostics) kept

-- a device failed: the output, behind which some is left, and these lines were written; or the diagnostics
abbrev pub FailsAs : Stopped → OutputState → OutputState → OutputState → OutputState → List ℕ → List ℕ → Type 0
FailsAs Write o o_new n n_new lines rest = OutputFailed o o_new × WroteAll n n_new lines × (0 < length rest)
FailsAs Diagnostics o o_new n n_new lines rest = OutputFailed n n_new
FailsAs _ o o_new n n_new lines rest = ⊥

-- a prefix of the output that was held back was written, and a device failed
pub record FlushFailed (o n o_new n_new : OutputState) (held : Done) (stop : Stopped) : Type 0 where
  pub sent : List ℕ
  pub rest : List ℕ
  pub begins : held.output ≡ sent ++ rest
  pub to_output : Appends o.taken o_new.taken sent
  pub cause : FailsAs stop o o_new n n_new held.diagnostics rest

abbrev pub Flushes : {A : Type 0} → OutputState → OutputState → OutputState → OutputState → Done → Done
    → Result A Stopped → Type 0
Flushes o n o_new n_new held kept r =
    MatchResult r (λ _. Flushed o n o_new n_new held kept) (λ stop. FlushFailed o n o_new n_new held stop)

-- what is told of a stop
abbrev pub Closes : Stopped → OutputState → OutputState → ℕ → Type 0
Closes Diagnostics old new result = (result ≡ FAULT) × (new ≡ old)
Closes stop old new result = Reports (line_of stop) (stop_status stop) old new result
