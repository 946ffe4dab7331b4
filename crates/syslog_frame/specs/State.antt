-- A scanner's phase and numbers, whatever the octets are.
use Rattle.std.specs.Prelude.{◌≡◌, ◌≢◌, ℕ, ◌+◌, ◌<◌, ◌≤◌, List, length, slice_index, Vec, vec_capacity, vec_len}
use Rattle.syslog_frame.specs.Count.{IsRefused}
use Rattle.syslog_frame.specs.declared.framing.Framing.{Framing}
use Rattle.syslog_frame.specs.declared.framing.Framing.TheVariants.{Counted, Lf}
use Rattle.syslog_frame.specs.declared.limits.TheConstants.{COUNT_MAX, FRAME_MAX}
use Rattle.syslog_frame.specs.declared.phase.Phase.{Phase}
use Rattle.syslog_frame.specs.declared.phase.Phase.TheVariants.{Counting, Inside, Ended, BadCount, Failed}
use Rattle.syslog_frame.specs.declared.record.Progress.{Progress}

-- a phase in which octets are taken
abbrev pub IsOpen : Phase → Type 0
IsOpen Inside = Unit {0}
IsOpen Counting = Unit {0}
IsOpen phase = ⊥

-- the phase before the first octet of a frame
abbrev pub phase_of : Framing → Phase
phase_of Counted = Counting
phase_of Lf = Inside

-- how size and count are related
abbrev pub IsState : Framing → Phase → ℕ → ℕ → Type 0
IsState Counted Inside count size = size < count
IsState Counted Counting count size = size ≡ 0
IsState Lf Counting count size = ⊥
IsState kind phase count size = Unit {0}

-- what the phase after a piece says of how much was taken
abbrev pub IsProgress : Phase → ℕ → List ℕ → ℕ → Type 0
IsProgress Ended count piece n = Unit {0}
IsProgress BadCount count piece n = (n < length piece) × IsRefused count (slice_index piece n)
IsProgress Inside count piece n = n ≡ length piece
IsProgress Counting count piece n = n ≡ length piece
IsProgress Failed count piece n = ⊥

-- of a record of which so many octets came all are kept, unless they are too many
abbrev pub KeepsSize : {Z : Type 0} → ℕ → Vec ℕ Z → Type 0
KeepsSize size kept = size ≤ FRAME_MAX → vec_len kept ≡ size

-- what is kept, and the room for it, is what it was
pub record IsSame {Z : Type 0} (old new : Vec ℕ Z) : Type 0 where
  pub items : new.items ≡ old.items
  pub len : vec_len new ≡ vec_len old
  pub room : vec_capacity new ≡ vec_capacity old

-- a piece advances a frame of which so many octets of its record came
pub record Advances (framing : Framing) (size : ℕ) (piece : List ℕ) (to : Progress) : Type 0 where
  pub within : to.used ≤ length piece
  pub some : 0 < length piece → to.phase ≢ BadCount → 0 < to.used
  pub far : to.size ≤ size + to.used
  pub taken : IsProgress to.phase to.count piece to.used
  pub state : IsState framing to.phase to.count to.size
  pub small : to.count ≤ COUNT_MAX
