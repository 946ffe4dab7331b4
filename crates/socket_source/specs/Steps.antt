-- The steps of a server's source: which may come, and what is open after each.
use Rattle.std.specs.Prelude.{◌≡◌, ℕ, ◌≤◌, ◌==◌, ◌&&◌, ◌||◌, not, nat_lt, Bool, true, false, List, [], ◌∷◌, length, take}
use Rattle.std.specs.Prelude.{Option, Some, None, if◌then◌else◌, ⊤}
use Rattle.std.specs.Net.Socket.{socket_ip}
use Rattle.std.specs.declared.net.socket_addr.SocketAddr.{SocketAddr}
use Rattle.octet_devices.specs.Device.{count_on}
use Rattle.peer_rules.specs.Addresses.{number_of}
use Rattle.peer_rules.specs.AllowLists.{MaySend, may_send}
use Rattle.peer_rules.specs.declared.network.Network.{Network}
use Rattle.socket_source.specs.declared.counts.StepCounts.{StepCounts}
use Rattle.socket_source.specs.declared.limits.TheConstants.{PIECE_MAX}
use Rattle.socket_source.specs.declared.step.ServerStep.{ServerStep}
use Rattle.socket_source.specs.declared.step.ServerStep.TheVariants.{Opened, Piece, Ended, Datagram, TurnedAway}
use Rattle.socket_source.specs.declared.step.ServerStep.TheVariants.{NotAllowed, OverRate, Tick, InputEnded, Finished, Failed}

-- the numbers that are open, below a limit; how many listeners there are; and the networks whose addresses may send
pub record Standing : Type 0 where
  pub live : ℕ → Bool
  pub limit : ℕ
  pub listeners : ℕ
  pub networks : List Network

-- whether the peer of a connection may send, and the sender of a datagram, which is not asked if it has no address
abbrev pub is_peer : List Network → SocketAddr → Bool
is_peer networks peer = may_send networks (number_of (socket_ip peer))

abbrev pub is_sender : List Network → Option SocketAddr → Bool
is_sender networks None = true
is_sender networks (Some peer) = is_peer networks peer

-- Whether a step may come. A connection opens under a number that is not open, gives octets while it is open, and ends
-- once. It is opened, or turned away, and a datagram is given, or is above the rate of its peer, if its peer may send; it is
-- told of any other peer that it may not.
abbrev pub may_come : Standing → ServerStep → Bool
may_come s (Opened conn listener framing peer) =
    nat_lt listener s.listeners && (nat_lt conn s.limit && (not (s.live conn) && is_peer s.networks peer))
may_come s (Piece conn len) = s.live conn && nat_lt 0 len
may_come s (Ended conn end) = s.live conn
may_come s (Datagram listener peer len) = nat_lt listener s.listeners && is_sender s.networks peer
may_come s (TurnedAway listener framing peer) = nat_lt listener s.listeners && is_peer s.networks peer
may_come s (NotAllowed listener peer) = nat_lt listener s.listeners && not (is_peer s.networks peer)
may_come s (OverRate listener peer) = nat_lt listener s.listeners && is_peer s.networks peer
may_come s Tick = true
may_come s InputEnded = true
may_come s Finished = true
may_come s (Failed fault) = true

-- a number more is open
abbrev pub with_open : ℕ → (ℕ → Bool) → ℕ → Bool
with_open conn live n = (n == conn) || live n

-- a number is open no more
abbrev pub without_open : ℕ → (ℕ → Bool) → ℕ → Bool
without_open conn live n = not (n == conn) && live n

-- what is open after a step
abbrev pub open_after : ServerStep → (ℕ → Bool) → ℕ → Bool
open_after (Opened conn listener framing peer) live n = with_open conn live n
open_after (Piece conn len) live n = live n
open_after (Ended conn end) live n = without_open conn live n
open_after (Datagram listener peer len) live n = live n
open_after (TurnedAway listener framing peer) live n = live n
open_after (NotAllowed listener peer) live n = live n
open_after (OverRate listener peer) live n = live n
open_after Tick live n = live n
open_after InputEnded live n = live n
open_after Finished live n = live n
open_after (Failed fault) live n = live n

-- these numbers are open in place of those
pub record Becomes (old new : Standing) (live : ℕ → Bool) : Type 0 where
  pub opened : (n : ℕ) → new.live n ≡ live n
  pub limit : new.limit ≡ old.limit
  pub listeners : new.listeners ≡ old.listeners
  pub networks : new.networks ≡ old.networks

-- no more octets are counted than there is room for
abbrev pub IsWithin : ℕ → ServerStep → Type 0
IsWithin room (Opened conn listener framing peer) = Unit {0}
IsWithin room (Piece conn len) = len ≤ room
IsWithin room (Ended conn end) = Unit {0}
IsWithin room (Datagram listener peer len) = len ≤ room
IsWithin room (TurnedAway listener framing peer) = Unit {0}
IsWithin room (NotAllowed listener peer) = Unit {0}
IsWithin room (OverRate listener peer) = Unit {0}
IsWithin room Tick = Unit {0}
IsWithin room InputEnded = Unit {0}
IsWithin room Finished = Unit {0}
IsWithin room (Failed fault) = Unit {0}

-- the step may come, and opens and ends what it says
pub record IsLawful (old new : Standing) (room : ℕ) (step : ServerStep) : Type 0 where
  pub within : IsWithin room step
  pub may : may_come old step ≡ true
  pub becomes : Becomes old new (open_after step old.live)

-- how many steps a source gave, and how many of them said that it failed, and that nothing more comes
pub record Counts : Type 0 where
  pub steps : ℕ
  pub failures : ℕ
  pub finishes : ℕ

abbrev pub counts_of : StepCounts → Counts
counts_of c = record { steps = c.steps; failures = c.failures; finishes = c.finishes }

abbrev pub no_steps : Counts
no_steps = record { steps = 0; failures = 0; finishes = 0 }

-- the counts after a step
abbrev pub counted : Counts → ServerStep → Counts
counted c (Opened conn listener framing peer) = record c { steps = count_on c.steps }
counted c (Piece conn len) = record c { steps = count_on c.steps }
counted c (Ended conn end) = record c { steps = count_on c.steps }
counted c (Datagram listener peer len) = record c { steps = count_on c.steps }
counted c (TurnedAway listener framing peer) = record c { steps = count_on c.steps }
counted c (NotAllowed listener peer) = record c { steps = count_on c.steps }
counted c (OverRate listener peer) = record c { steps = count_on c.steps }
counted c Tick = record c { steps = count_on c.steps }
counted c InputEnded = record c { steps = count_on c.steps }
counted c Finished = record c { steps = count_on c.steps; finishes = count_on c.finishes }
counted c (Failed fault) = record c { steps = count_on c.steps; failures = count_on c.failures }

-- a step, and the octets of a piece or a datagram
pub record Given : Type 0 where
  pub step : ServerStep
  pub octets : List ℕ

-- the octets that a step put into a slice
abbrev pub octets_of : ServerStep → List ℕ → List ℕ
octets_of (Opened conn listener framing peer) buf = []
octets_of (Piece conn len) buf = take len buf
octets_of (Ended conn end) buf = []
octets_of (Datagram listener peer len) buf = take len buf
octets_of (TurnedAway listener framing peer) buf = []
octets_of (NotAllowed listener peer) buf = []
octets_of (OverRate listener peer) buf = []
octets_of Tick buf = []
octets_of InputEnded buf = []
octets_of Finished buf = []
octets_of (Failed fault) buf = []

abbrev pub given_of : ServerStep → List ℕ → Given
given_of step buf = record { step = step; octets = octets_of step buf }

-- the end of all steps
abbrev pub finished : Given
finished = record { step = Finished; octets = [] }

-- the first of these steps that may come
abbrev pub next_of : Standing → List Given → Given
next_of s [] = finished
next_of s (g ∷ gs) = if may_come s g.step then g else next_of s gs

-- those behind it
abbrev pub behind : Standing → List Given → List Given
behind s [] = []
behind s (g ∷ gs) = if may_come s g.step then gs else behind s gs

-- where the steps to come are known, this is the first of them that may come, and those behind it are still to come
abbrev pub Comes : Standing → Option (List Given) → Option (List Given) → Given → Type 0
Comes s None new g = ⊤
Comes s (Some gs) new g = (g ≡ next_of s gs) × (new ≡ Some (behind s gs))

-- a source: what is open, its counts, and the steps to come with their octets, where it tells them
pub record SourceState : Type 0 where
  pub standing : Standing
  pub counts : Counts
  pub coming : Option (List Given)

-- a step is of a peer that may send, or says of one that it may not
abbrev pub IsAllowed : List Network → ServerStep → Type 0
IsAllowed networks (Opened conn listener framing peer) = MaySend networks (number_of (socket_ip peer))
IsAllowed networks (Piece conn len) = Unit {0}
IsAllowed networks (Ended conn end) = Unit {0}
IsAllowed networks (Datagram listener None len) = Unit {0}
IsAllowed networks (Datagram listener (Some peer) len) = MaySend networks (number_of (socket_ip peer))
IsAllowed networks (TurnedAway listener framing peer) = MaySend networks (number_of (socket_ip peer))
IsAllowed networks (NotAllowed listener peer) = ¬ (MaySend networks (number_of (socket_ip peer)))
IsAllowed networks (OverRate listener peer) = MaySend networks (number_of (socket_ip peer))
IsAllowed networks Tick = Unit {0}
IsAllowed networks InputEnded = Unit {0}
IsAllowed networks Finished = Unit {0}
IsAllowed networks (Failed fault) = Unit {0}

-- a source gave a step into a slice. It is one that may come, and where the slice has room for a piece the first of those to
-- come
pub record GaveStep (old new : SourceState) (step : ServerStep) (buf : List ℕ) : Type 0 where
  pub lawful : IsLawful old.standing new.standing (length buf) step
  pub allowed : IsAllowed old.standing.networks step
  pub counts : new.counts ≡ counted old.counts step
  pub comes : PIECE_MAX ≤ length buf → Comes old.standing old.coming new.coming (given_of step buf)

-- a connection was closed
pub record Closes (old new : SourceState) (conn : ℕ) : Type 0 where
  pub becomes : Becomes old.standing new.standing (without_open conn old.standing.live)
  pub counts : new.counts ≡ old.counts
  pub coming : new.coming ≡ old.coming

-- with no step nothing changes
abbrev pub IfLawful : Standing → Standing → ℕ → Option ServerStep → Type 0
IfLawful old new room None = new ≡ old
IfLawful old new room (Some step) = IsLawful old new room step

-- no number is open
pub record IsVacant (s : Standing) (limit listeners : ℕ) (networks : List Network) : Type 0 where
  pub none_live : (n : ℕ) → s.live n ≡ false
  pub limit_is : s.limit ≡ limit
  pub listeners_are : s.listeners ≡ listeners
  pub networks_are : s.networks ≡ networks

-- before any step
pub record IsFresh (s : SourceState) (limit listeners : ℕ) (networks : List Network) (steps : Option (List Given)) : Type 0 where
  pub vacant : IsVacant s.standing limit listeners networks
  pub counts : s.counts ≡ no_steps
  pub coming : s.coming ≡ steps
