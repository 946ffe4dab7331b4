-- What is open of the sockets.
use Rattle.std.specs.Prelude.{◌≡◌, ℕ, ◌<◌, ◌≤◌, Bool, false, is_some, IsSome}
use Rattle.slab.specs.Slab.{Slab, get}
use Rattle.socket_source.specs.Steps.{with_open}
use Rattle.socket_source.specs.declared.refusal.Reading.{Reading}
use Rattle.socket_source.specs.declared.refusal.Reading.TheVariants.{Piece, Ended, Dry, Again}
use Rattle.socket_source.specs.declared.step.ConnectionEnd.TheVariants as end
use Rattle.socket_source.specs.declared.step.ServerStep.{ServerStep}
use Rattle.socket_source.specs.declared.step.ServerStep.TheVariants as step
use Rattle.socket_source.specs.declared.step.ServerStep.TheVariants.{Opened, Datagram, TurnedAway, NotAllowed, OverRate}
use Rattle.socket_source.specs.declared.step.ServerStep.TheVariants.{Tick, InputEnded, Finished, Failed}

-- a number has a connection
abbrev pub open_in : {T : Type 0} → Slab T → ℕ → Bool
open_in connections n = is_some (get connections n)

-- a connection was opened under a number that had none
pub record IsOpenedAs {T : Type 0} (old new : Slab T) (limit conn : ℕ) : Type 0 where
  pub vacant : open_in old conn ≡ false
  pub below : conn < limit
  pub opened : (n : ℕ) → open_in new n ≡ with_open conn (open_in old) n

-- a read gives some octets, and no more than there is room for
abbrev pub ReadsWithin : ℕ → Reading → Type 0
ReadsWithin room (Piece len) = (0 < len) × (len ≤ room)
ReadsWithin room (Ended end) = Unit {0}
ReadsWithin room Dry = Unit {0}
ReadsWithin room Again = Unit {0}

-- the step is of this connection
abbrev pub IsOf : ℕ → ServerStep → Type 0
IsOf conn (Opened c listener framing peer) = ⊥
IsOf conn (step.Piece c len) = c ≡ conn
IsOf conn (step.Ended c end) = c ≡ conn
IsOf conn (Datagram listener peer len) = ⊥
IsOf conn (TurnedAway listener framing peer) = ⊥
IsOf conn (NotAllowed listener peer) = ⊥
IsOf conn (OverRate listener peer) = ⊥
IsOf conn Tick = ⊥
IsOf conn InputEnded = ⊥
IsOf conn Finished = ⊥
IsOf conn (Failed fault) = ⊥

-- the step ends a connection
abbrev pub IsEnd : ServerStep → Type 0
IsEnd (Opened conn listener framing peer) = ⊥
IsEnd (step.Piece conn len) = ⊥
IsEnd (step.Ended conn e) = Unit {0}
IsEnd (Datagram listener peer len) = ⊥
IsEnd (TurnedAway listener framing peer) = ⊥
IsEnd (NotAllowed listener peer) = ⊥
IsEnd (OverRate listener peer) = ⊥
IsEnd Tick = ⊥
IsEnd InputEnded = ⊥
IsEnd Finished = ⊥
IsEnd (Failed fault) = ⊥

-- the step is of this listener
abbrev pub IsAt : ℕ → ServerStep → Type 0
IsAt listener (Opened conn l framing peer) = l ≡ listener
IsAt listener (step.Piece conn len) = ⊥
IsAt listener (step.Ended conn end) = ⊥
IsAt listener (Datagram l peer len) = l ≡ listener
IsAt listener (TurnedAway l framing peer) = l ≡ listener
IsAt listener (NotAllowed l peer) = l ≡ listener
IsAt listener (OverRate l peer) = l ≡ listener
IsAt listener Tick = ⊥
IsAt listener InputEnded = ⊥
IsAt listener Finished = ⊥
IsAt listener (Failed fault) = ⊥

-- the step is of this listener, or ends a connection that makes room for one of it
abbrev pub IsAtOrDisplaced : ℕ → ServerStep → Type 0
IsAtOrDisplaced listener (Opened conn l framing peer) = l ≡ listener
IsAtOrDisplaced listener (step.Piece conn len) = ⊥
IsAtOrDisplaced listener (step.Ended conn e) = e ≡ end.Displaced
IsAtOrDisplaced listener (Datagram l peer len) = l ≡ listener
IsAtOrDisplaced listener (TurnedAway l framing peer) = l ≡ listener
IsAtOrDisplaced listener (NotAllowed l peer) = l ≡ listener
IsAtOrDisplaced listener (OverRate l peer) = l ≡ listener
IsAtOrDisplaced listener Tick = ⊥
IsAtOrDisplaced listener InputEnded = ⊥
IsAtOrDisplaced listener Finished = ⊥
IsAtOrDisplaced listener (Failed fault) = ⊥

-- a datagram comes with the address of its sender
abbrev pub HasSender : ServerStep → Type 0
HasSender (Opened conn l framing peer) = Unit {0}
HasSender (step.Piece conn len) = Unit {0}
HasSender (step.Ended conn e) = Unit {0}
HasSender (Datagram l peer len) = IsSome peer
HasSender (TurnedAway l framing peer) = Unit {0}
HasSender (NotAllowed l peer) = Unit {0}
HasSender (OverRate l peer) = Unit {0}
HasSender Tick = Unit {0}
HasSender InputEnded = Unit {0}
HasSender Finished = Unit {0}
HasSender (Failed fault) = Unit {0}
