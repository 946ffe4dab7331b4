-- A source over a list of steps.
use Rattle.std.specs.Prelude.{◌≡◌, ℕ, ◌+◌, ◌<◌, Bool, true, false, List, [], length, take, drop, slice_index_or, Vec}
use Rattle.std.specs.Global.{Global}
use Rattle.peer_rules.specs.declared.network.Network.{Network}
use Rattle.socket_source.specs.Steps.{Standing, Given, behind, finished, may_come, next_of}
use Rattle.socket_source.specs.declared.limits.TheConstants.{PIECE_MAX}
use Rattle.socket_source.specs.declared.step.ServerStep.{ServerStep}
use Rattle.socket_source.specs.declared.step.ServerStep.TheVariants.{Opened, Piece, Ended, Datagram, TurnedAway}
use Rattle.socket_source.specs.declared.step.ServerStep.TheVariants.{NotAllowed, OverRate, Tick, InputEnded, Finished, Failed}

-- an item of a list: a step, and the octets of a piece or a datagram
abbrev pub Item : Type 0
Item = ServerStep × Vec ℕ Global

-- a step with so many of these octets as a source gives at most; of a piece and a datagram the octets count, and not the number in
-- the step
abbrev pub listed : ServerStep → List ℕ → Given
listed (Opened conn listener framing peer) octets = record { step = Opened conn listener framing peer; octets = [] }
listed (Piece conn len) octets =
    record { step = Piece conn (length (take PIECE_MAX octets)); octets = take PIECE_MAX octets }
listed (Ended conn end) octets = record { step = Ended conn end; octets = [] }
listed (Datagram listener peer len) octets =
    record { step = Datagram listener peer (length (take PIECE_MAX octets)); octets = take PIECE_MAX octets }
listed (TurnedAway listener framing peer) octets = record { step = TurnedAway listener framing peer; octets = [] }
listed (NotAllowed listener peer) octets = record { step = NotAllowed listener peer; octets = [] }
listed (OverRate listener peer) octets = record { step = OverRate listener peer; octets = [] }
listed Tick octets = record { step = Tick; octets = [] }
listed InputEnded octets = record { step = InputEnded; octets = [] }
listed Finished octets = record { step = Finished; octets = [] }
listed (Failed fault) octets = record { step = Failed fault; octets = [] }

abbrev pub listed_item : Item → Given
listed_item item = listed item.0 item.1.items

-- which numbers are open, by a list of flags
abbrev pub flagged : List Bool → ℕ → Bool
flagged flags n = slice_index_or flags n false

abbrev pub standing_by : List Bool → ℕ → List Network → Standing
standing_by flags listeners networks = record {
  live = flagged flags;
  limit = length flags;
  listeners = listeners;
  networks = networks;
}

-- of the steps from a place on, this is the first that may come
pub record IsFirst (s : Standing) (gs : List Given) (from at : ℕ) : Type 0 where
  pub within : at < length gs
  pub may : may_come s (slice_index_or gs at finished).step ≡ true
  pub next : next_of s (drop from gs) ≡ slice_index_or gs at finished
  pub rest : behind s (drop from gs) ≡ drop (at + 1) gs

-- of the steps from a place on, none may come
pub record MayNone (s : Standing) (gs : List Given) (from : ℕ) : Type 0 where
  pub next : next_of s (drop from gs) ≡ finished
  pub rest : behind s (drop from gs) ≡ []
