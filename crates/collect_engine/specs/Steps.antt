-- The steps of a source, and their counts.
use Rattle.std.specs.Prelude.{◌≡◌, ℕ, ◌+◌, ◌-◌, ◌^◌, ◌<◌, ◌≤◌, List, [], ◌∷◌, length, take, Option, Some, None, ⊤}
use Rattle.octet_devices.specs.Device.{count_on}
use Rattle.syslog_frame.specs.declared.framing.Framing.{Framing}
use Rattle.syslog_frame.specs.declared.limits.TheConstants.{FRAME_MAX}
use Rattle.collect_engine.specs.declared.step.Step.{Step}
use Rattle.collect_engine.specs.declared.step.Step.TheVariants.{Opened as step_Opened, Piece as step_Piece}
use Rattle.collect_engine.specs.declared.step.Step.TheVariants.{Ended as step_Ended, Datagram as step_Datagram}
use Rattle.collect_engine.specs.declared.step.Step.TheVariants.{Finished as step_Finished, Failed as step_Failed}

-- a step with its octets
pub data Given : Type 0 where
  Opened : Framing → Given
  Piece : List ℕ → Given
  Ended : Given
  Datagram : List ℕ → Given
  Finished : Given
  Failed : Given

-- the step that was given into a slice
abbrev pub given_of : Step → List ℕ → Given
given_of (step_Opened framing) buf = Opened framing
given_of (step_Piece n) buf = Piece (take n buf)
given_of step_Ended buf = Ended
given_of (step_Datagram n) buf = Datagram (take n buf)
given_of step_Finished buf = Finished
given_of step_Failed buf = Failed

-- no more octets are counted than there is room for
abbrev pub IsWithin : ℕ → Step → Type 0
IsWithin room (step_Opened framing) = Unit {0}
IsWithin room (step_Piece n) = n ≤ room
IsWithin room step_Ended = Unit {0}
IsWithin room (step_Datagram n) = n ≤ room
IsWithin room step_Finished = Unit {0}
IsWithin room step_Failed = Unit {0}

-- the failures after a step
abbrev pub FailuresAfter : Step → ℕ → ℕ → Type 0
FailuresAfter (step_Opened framing) old new = new ≡ old
FailuresAfter (step_Piece n) old new = new ≡ old
FailuresAfter step_Ended old new = new ≡ old
FailuresAfter (step_Datagram n) old new = new ≡ old
FailuresAfter step_Finished old new = new ≡ old
FailuresAfter step_Failed old new = new ≡ count_on old

-- how often nothing more came, after a step
abbrev pub FinishesAfter : Step → ℕ → ℕ → Type 0
FinishesAfter (step_Opened framing) old new = new ≡ old
FinishesAfter (step_Piece n) old new = new ≡ old
FinishesAfter step_Ended old new = new ≡ old
FinishesAfter (step_Datagram n) old new = new ≡ old
FinishesAfter step_Finished old new = new ≡ count_on old
FinishesAfter step_Failed old new = new ≡ old

-- 1 for a step that says that the source failed
abbrev pub says_failed : Given → ℕ
says_failed (Opened framing) = 0
says_failed (Piece octets) = 0
says_failed Ended = 0
says_failed (Datagram octets) = 0
says_failed Finished = 0
says_failed Failed = 1

-- 1 for a step that says that nothing more comes
abbrev pub says_finished : Given → ℕ
says_finished (Opened framing) = 0
says_finished (Piece octets) = 0
says_finished Ended = 0
says_finished (Datagram octets) = 0
says_finished Finished = 1
says_finished Failed = 0

-- in how many of these steps
abbrev pub how_often : (Given → ℕ) → List Given → ℕ
how_often says [] = 0
how_often says (g ∷ gs) = says g + how_often says gs

-- of known steps to come, this is the first, and the others are still to come
abbrev pub Comes : Option (ℕ → Given) → Option (ℕ → Given) → Given → Type 0
Comes None new step = ⊤
Comes (Some old) None step = ⊥
Comes (Some old) (Some new) step = (old 0 ≡ step) × ((k : ℕ) → new k ≡ old (k + 1))

-- a source: how many steps it gave, how many of them said that it failed and that nothing more comes, and the steps to
-- come with their octets, by how many come before them, where it reports them
pub record SourceState : Type 0 where
  pub steps : ℕ
  pub failures : ℕ
  pub finishes : ℕ
  pub coming : Option (ℕ → Given)

-- a source gave a step into a slice. It is the first of those to come, where the steps are few enough to be counted and
-- the slice has room
pub record GaveStep (old new : SourceState) (step : Step) (buf : List ℕ) : Type 0 where
  pub within : IsWithin (length buf) step
  pub counted : new.steps ≡ count_on old.steps
  pub failures : FailuresAfter step old.failures new.failures
  pub finishes : FinishesAfter step old.finishes new.finishes
  pub comes : old.steps < 2 ^ 64 - 1 → FRAME_MAX < length buf → Comes old.coming new.coming (given_of step buf)
