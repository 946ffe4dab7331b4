-- Runs of turns: which socket had a step in each.
use Rattle.std.specs.Prelude.{◌≡◌, ◌⊎◌, ◌==◌, ℕ, ◌+◌, Bool, true, false, List, [], ◌∷◌, ◌||◌, if◌then◌else◌, Option}
use Rattle.std.specs.Prelude.{IfSome}
use Rattle.socket_source.specs.Waiting.{IsEmpty, Keeps, Line, TakesDatagram, TakesOther}
use Rattle.socket_source.specs.declared.step.ServerStep.{ServerStep}
use Rattle.socket_source.specs.declared.step.ServerStep.TheVariants.{Opened, Piece, Ended, Datagram, TurnedAway}
use Rattle.socket_source.specs.declared.step.ServerStep.TheVariants.{NotAllowed, OverRate, Tick, InputEnded, Finished, Failed}

-- nobody has a step, or the socket with this number has one, with which its turn ends or goes on
pub data Turn : Type 0 where
  no_step : Turn
  of_datagrams : ℕ → Bool → Turn
  of_other : ℕ → Bool → Turn

abbrev pub TakesTurn : Turn → Line → Line → Type 0
TakesTurn no_step old new = Keeps old new
TakesTurn (of_datagrams number ends) old new = TakesDatagram number ends old new
TakesTurn (of_other number ends) old new = TakesOther number ends old new

-- these turns, one behind the other
abbrev pub Turns : List Turn → Line → Line → Type 0
Turns [] old new = new ≡ old
Turns (turn ∷ turns) old new = (mid : Line) × (TakesTurn turn old mid × Turns turns mid new)

-- a socket has a step
abbrev pub is_served : Turn → Bool
is_served no_step = false
is_served (of_datagrams number ends) = true
is_served (of_other number ends) = true

abbrev pub some_served : List Turn → Bool
some_served [] = false
some_served (turn ∷ turns) = is_served turn || some_served turns

-- a socket has a step, or none has anything
abbrev pub ServesAny : Line → Line → Type 0
ServesAny old new =
    (IsEmpty old × Keeps old new) ⊎ ((turn : Turn) × ((is_served turn ≡ true) × TakesTurn turn old new))

-- the same behind others that came
abbrev pub ServesThen : Line → Line → Type 0
ServesThen old new = (mid : Line) × (Keeps old mid × ServesAny mid new)

-- the socket with this number has a step
abbrev pub is_of : ℕ → Turn → Bool
is_of number no_step = false
is_of number (of_datagrams n ends) = n == number
is_of number (of_other n ends) = n == number

abbrev pub some_of : ℕ → List Turn → Bool
some_of number [] = false
some_of number (turn ∷ turns) = is_of number turn || some_of number turns

-- the number of a listener, by its place, and that of a connection, behind those of so many listeners
abbrev pub listener_number : ℕ → ℕ
listener_number listener = listener + 1

abbrev pub connection_number : ℕ → ℕ → ℕ
connection_number listeners conn = listeners + conn + 1

-- what a step gives was read from the socket with this number, where there are so many listeners
abbrev pub IsOwn : ℕ → ℕ → ServerStep → Type 0
IsOwn listeners number (Opened conn listener framing peer) = Unit {0}
IsOwn listeners number (Piece conn len) = number ≡ connection_number listeners conn
IsOwn listeners number (Ended conn end) = Unit {0}
IsOwn listeners number (Datagram listener peer len) = number ≡ listener_number listener
IsOwn listeners number (TurnedAway listener framing peer) = Unit {0}
IsOwn listeners number (NotAllowed listener peer) = Unit {0}
IsOwn listeners number (OverRate listener peer) = number ≡ listener_number listener
IsOwn listeners number Tick = Unit {0}
IsOwn listeners number InputEnded = Unit {0}
IsOwn listeners number Finished = Unit {0}
IsOwn listeners number (Failed fault) = Unit {0}

-- A step comes of a turn of a socket, and what it gives of a turn of its own socket, where there are so many
-- listeners. A
-- connection may end in no turn: it was silent for too long, or standard input has ended.
abbrev pub IsServed : ℕ → ServerStep → List Turn → Type 0
IsServed listeners (Opened conn listener framing peer) turns = some_served turns ≡ true
IsServed listeners (Piece conn len) turns = some_of (connection_number listeners conn) turns ≡ true
IsServed listeners (Ended conn end) turns = Unit {0}
IsServed listeners (Datagram listener peer len) turns = some_of (listener_number listener) turns ≡ true
IsServed listeners (TurnedAway listener framing peer) turns = some_served turns ≡ true
IsServed listeners (NotAllowed listener peer) turns = some_served turns ≡ true
IsServed listeners (OverRate listener peer) turns = some_of (listener_number listener) turns ≡ true
IsServed listeners Tick turns = Unit {0}
IsServed listeners InputEnded turns = some_served turns ≡ true
IsServed listeners Finished turns = Unit {0}
IsServed listeners (Failed fault) turns = Unit {0}

-- some turns, of which the step comes, if there is one
abbrev pub HasTurns : ℕ → Option ServerStep → Line → Line → Type 0
HasTurns listeners step old new =
    (turns : List Turn) × (Turns turns old new × IfSome step (λ s. IsServed listeners s turns))

-- for each step that datagram sockets had, whether a turn ended with it
abbrev pub ends_of_datagrams : List Turn → List Bool
ends_of_datagrams [] = []
ends_of_datagrams (no_step ∷ turns) = ends_of_datagrams turns
ends_of_datagrams (of_datagrams number ends ∷ turns) = ends ∷ ends_of_datagrams turns
ends_of_datagrams (of_other number ends ∷ turns) = ends_of_datagrams turns

-- for each step that other sockets had
abbrev pub ends_of_others : List Turn → List Bool
ends_of_others [] = []
ends_of_others (no_step ∷ turns) = ends_of_others turns
ends_of_others (of_datagrams number ends ∷ turns) = ends_of_others turns
ends_of_others (of_other number ends ∷ turns) = ends ∷ ends_of_others turns

-- how many turns ended
abbrev pub ended : List Bool → ℕ
ended [] = 0
ended (ends ∷ more) = ended more + (if ends then 1 else 0)
