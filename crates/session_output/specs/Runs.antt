-- A session that is given its octets by calls, and what was written of what comes of them.
use Rattle.std.specs.Prelude.{◌≡◌, ℕ, ◌+◌, ◌⊎◌, List, ◌++◌, length, Bool, true, false, None, Result, MatchResult}
use Rattle.std.specs.Io.KnownBytes.{Appends}
use Rattle.octet_devices.specs.Device.{OutputState}
use Rattle.octet_devices.specs.Transfers.{WroteAll}
use Rattle.driver.specs.Devices.{OutputFailed}
use Rattle.driver.specs.Effects.{Done, IsPrefixOf, then_done, written}
use Rattle.driver.specs.Sessions.{Meaning, most_octets, with_rest}
use Rattle.driver.specs.declared.stopped.Stopped.{Stopped as Reason}
use Rattle.driver.specs.declared.stopped.Stopped.TheVariants.{Read, Endless, Write, Diagnostics, Memory}
use Rattle.session_output.specs.declared.progress.Progress.{Progress}
use Rattle.session_output.specs.declared.progress.Progress.TheVariants.{Open, Answered, Stopped}

-- an output, and what the diagnostics are written to
pub record Outputs : Type 0 where
  pub output : OutputState
  pub diagnostics : OutputState

abbrev pub outputs : OutputState → OutputState → Outputs
outputs output diagnostics = record { output = output; diagnostics = diagnostics }

-- two devices that report nothing
abbrev pub untouched : Outputs
untouched =
    let none : OutputState = record { calls = 0; failures = 0; taken = None } in
    outputs none none

-- these were written, and neither device failed
pub record Wrote (old new : Outputs) (output diagnostics : List ℕ) : Type 0 where
  pub to_output : WroteAll old.output new.output output
  pub to_diagnostics : WroteAll old.diagnostics new.diagnostics diagnostics

-- this comes of octets: of the whole text that they are, or of the first ones of a text
abbrev pub ComesOf : Meaning → List ℕ → Done → Type 0
ComesOf M given d = M.whole given d ⊎ (M.so_far given d ⊎ M.part given d)

-- of the output that comes of octets a prefix was written
pub record WroteFirst (M : Meaning) (old new : Outputs) (given : List ℕ) : Type 0 where
  pub done : Done
  pub sent : List ℕ
  pub comes : ComesOf M given done
  pub begins : IsPrefixOf sent done.output
  pub to_output : Appends old.output.taken new.output.taken sent

-- the cause of a stop: a device failed; of want of memory, and of a text that is too long, nothing is said
abbrev pub IsCause : Reason → Outputs → Outputs → Type 0
IsCause Read old new = ⊥
IsCause Endless old new = Unit {0}
IsCause Write old new = OutputFailed old.output new.output
IsCause Diagnostics old new = OutputFailed old.diagnostics new.diagnostics
IsCause Memory old new = Unit {0}

-- a session was stopped behind these octets
pub record IsStopped (M : Meaning) (stop : Reason) (old new : Outputs) (given : List ℕ) : Type 0 where
  pub cause : IsCause stop old new
  pub first : WroteFirst M old new given

-- a session goes on behind these octets. What comes of them was written, but for what is held back
pub record GoesOn (M : Meaning) (S : List ℕ → Type 0) (old new : Outputs) (held : Done) (room : ℕ) (given : List ℕ) : Type 0
  where
    pub output : List ℕ
    pub diagnostics : List ℕ
    pub stands : S given
    pub so_far : M.so_far given (then_done (written output diagnostics) held)
    pub wrote : Wrote old new output diagnostics
    pub room_is : room + length given ≡ most_octets

-- a text was answered, but for what is held back and the rest of the output
pub record HoldsAnswer (M : Meaning) (old new : Outputs) (held : Done) (rest text : List ℕ) : Type 0 where
  pub output : List ℕ
  pub diagnostics : List ℕ
  pub whole : M.whole text (with_rest (then_done (written output diagnostics) held) rest)
  pub wrote : Wrote old new output diagnostics

abbrev pub is_stopped : Progress → Bool
is_stopped Open = false
is_stopped Answered = false
is_stopped (Stopped stop) = true

-- how a session stands that was given these octets, where it began with devices in these states
abbrev pub Runs : Progress → Meaning → (List ℕ → Type 0) → List ℕ → Outputs → Outputs → Done → ℕ → List ℕ → Type 0
Runs Open M S rest old new held room given = GoesOn M S old new held room given
Runs Answered M S rest old new held room given = (more : List ℕ) → HoldsAnswer M old new held rest (given ++ more)
Runs (Stopped stop) M S rest old new held room given = IsStopped M stop old new given

-- this was written of the output that comes of octets, and what is held back goes on with it
pub record HoldsFirst (M : Meaning) (old new : Outputs) (held : Done) (given : List ℕ) : Type 0 where
  pub output : List ℕ
  pub diagnostics : List ℕ
  pub done : Done
  pub more : List ℕ
  pub comes : ComesOf M given done
  pub parts : done.output ≡ (output ++ held.output) ++ more
  pub wrote : Wrote old new output diagnostics

-- exactly what comes of a whole text was written
pub record Answers (M : Meaning) (old new : Outputs) (text : List ℕ) (refused : Bool) : Type 0 where
  pub done : Done
  pub means : M.whole text done
  pub wrote : Wrote old new done.output done.diagnostics
  pub refused_is : refused ≡ done.refused

-- how a session ends that was given a whole text
abbrev pub Ends : Meaning → Outputs → Outputs → List ℕ → Result Bool Reason → Type 0
Ends M old new text r =
    MatchResult r (λ refused. Answers M old new text refused) (λ stop. IsStopped M stop old new text)

-- how one is left that was given the first octets of a text
abbrev pub Leaves : Meaning → Outputs → Outputs → List ℕ → Result Bool Reason → Type 0
Leaves M old new given r =
    MatchResult r (λ _. WroteFirst M old new given) (λ stop. IsStopped M stop old new given)
