-- Numbers that wait, each at most once.
use Rattle.std.specs.Prelude.{◌≡◌, ◌⊎◌, ℕ, zero, suc, ◌+◌, ◌<◌, ◌≤◌, Bool, true, false, List, [], ◌∷◌, ◌++◌, length, min, take, drop}
use Rattle.std.specs.Prelude.{nat_lt, if◌then◌else◌, slice_get, slice_set, slice_index_or, Option, Some, None}
use Rattle.std.specs.Int.{div_ceil}
use Rattle.socket_source.specs.declared.limits.TheConstants.{ACCEPTS_A_TURN, DATAGRAMS_A_TURN, DATAGRAM_TURNS_A_ROUND, STEPS_BETWEEN}
use Rattle.socket_source.specs.declared.ready_sockets.Chosen.{Chosen}
use Rattle.socket_source.specs.declared.ready_sockets.Chosen.TheVariants as chosen

-- A number that does not wait is put behind those that do, and is known to wait, if there is room. One that waits, or that there
-- is no place for, changes nothing.
abbrev pub Queues : ℕ → List Bool → List Bool → List ℕ → List ℕ → ℕ → Type 0
Queues room queued queued_now waiting waiting_now number =
    ((slice_index_or queued number true ≡ true) × (queued_now ≡ queued) × (waiting_now ≡ waiting))
    ⊎ ((slice_index_or queued number true ≡ false)
    × (((queued_now ≡ slice_set queued number true) × (waiting_now ≡ waiting ++ number ∷ []))
    ⊎ ((room ≤ length waiting) × (queued_now ≡ slice_set queued number false) × (waiting_now ≡ waiting))))

-- but for the first so many, those that were in a queue are still in it, in their order and before all others
abbrev pub KeepsOrder : ℕ → List ℕ → List ℕ → Type 0
KeepsOrder gone queue queue_now = take (length (drop gone queue)) queue_now ≡ drop gone queue

-- A queue: the numbers of the sockets that have something, in the order of their turns; whether the first goes on with its turn; and
-- how many steps that turn has had, or the one of the number that was taken last.
pub record Queue : Type 0 where
  pub numbers : List ℕ
  pub goes_on : Bool
  pub steps : ℕ

-- how many steps the first has had of its turn
abbrev pub steps_had : Queue → ℕ
steps_had queue = if queue.goes_on then queue.steps else 0

-- all stay in their order and before all that come, and the turn of the first is as far as it was
pub record Stays (old new : Queue) : Type 0 where
  pub numbers : KeepsOrder 0 old.numbers new.numbers
  pub goes_on : new.goes_on ≡ old.goes_on
  pub had : steps_had new ≡ steps_had old

-- the first leaves its queue for a step
pub record TakesFirst (number : ℕ) (old new : Queue) : Type 0 where
  pub first : old.numbers ≡ number ∷ new.numbers
  pub goes_on : new.goes_on ≡ false
  pub steps : new.steps ≡ steps_had old

-- it comes back before all others, and its turn has had a step more, and fewer than it may have
pub record GoesOn (number most : ℕ) (old new : Queue) : Type 0 where
  pub numbers : KeepsOrder 0 (number ∷ old.numbers) new.numbers
  pub goes_on : new.goes_on ≡ true
  pub steps : new.steps ≡ old.steps + 1
  pub few : new.steps < most

-- it comes back behind all others, or does not
pub record Ends (old new : Queue) : Type 0 where
  pub numbers : KeepsOrder 0 old.numbers new.numbers
  pub goes_on : new.goes_on ≡ old.goes_on

-- a number that left a queue has had a step, of at most so many in a turn
abbrev pub Returns : ℕ → ℕ → Queue → Queue → Type 0
Returns number most old new = GoesOn number most old new ⊎ Ends old new

-- The first of a queue has a step. Its turn ends, and all others move up; or it goes on, where that was not the last of so many steps.
pub record Serves (number : ℕ) (ends : Bool) (most : ℕ) (old new : Queue) : Type 0 where
  pub first : slice_get old.numbers 0 ≡ Some number
  pub numbers : KeepsOrder (if ends then 1 else 0) old.numbers new.numbers
  pub goes_on : new.goes_on ≡ (if ends then false else true)
  pub had : steps_had new ≡ (if ends then 0 else (steps_had old + 1))
  pub few : steps_had new < most

-- The sockets that have something: those of datagrams, and the others, each in the order of their turns; how many steps the others
-- have had since a datagram socket had one, up to as many as they may have; and how many listeners there are.
pub record Line : Type 0 where
  pub datagrams : Queue
  pub others : Queue
  pub between : ℕ
  pub listeners : ℕ

-- all stay in their order, and before all that come
pub record Keeps (old new : Line) : Type 0 where
  pub datagrams : Stays old.datagrams new.datagrams
  pub others : Stays old.others new.others
  pub between : new.between ≡ old.between
  pub listeners : new.listeners ≡ old.listeners

-- the most steps in a turn of a socket that is none of datagrams: that of a listener, whose numbers begin at 1, has several
abbrev pub most_steps : ℕ → ℕ → ℕ
most_steps listeners zero = 1
most_steps listeners (suc listener) = if nat_lt listener listeners then ACCEPTS_A_TURN else 1

-- how many steps so many other sockets may have before a datagram socket: a part of a turn of each, and no more than a number
abbrev pub room_of : ℕ → ℕ
room_of ready = min (div_ceil ready DATAGRAM_TURNS_A_ROUND) STEPS_BETWEEN

-- a step of a datagram socket may come next: it goes on with its turn, or the others have had as many steps as they may before it
abbrev pub MayTakeDatagram : Line → Type 0
MayTakeDatagram l = (l.datagrams.goes_on ≡ true) ⊎ (room_of (length l.others.numbers) ≤ l.between)

-- a step of another socket may come next: no datagram socket has anything, or those that do may wait for longer
abbrev pub MayTakeOther : Line → Type 0
MayTakeOther l =
    (l.datagrams.numbers ≡ []) ⊎ ((l.datagrams.goes_on ≡ false) × (l.between < room_of (length l.others.numbers)))

-- the first of the datagram sockets leaves its queue
pub record LeavesDatagrams (number : ℕ) (old new : Line) : Type 0 where
  pub may : MayTakeDatagram old
  pub datagrams : TakesFirst number old.datagrams new.datagrams
  pub others : Stays old.others new.others
  pub between : new.between ≡ 0
  pub listeners : new.listeners ≡ old.listeners

-- the first of the others leaves its queue
pub record LeavesOthers (number : ℕ) (old new : Line) : Type 0 where
  pub may : MayTakeOther old
  pub others : TakesFirst number old.others new.others
  pub datagrams : Stays old.datagrams new.datagrams
  pub between : new.between ≡ min (old.between + 1) STEPS_BETWEEN
  pub listeners : new.listeners ≡ old.listeners

-- no socket has anything
abbrev pub IsEmpty : Line → Type 0
IsEmpty l = (l.datagrams.numbers ≡ []) × (l.others.numbers ≡ [])

-- the socket that has the next step leaves its queue; if there is none, none has anything
abbrev pub Chooses : Option Chosen → Line → Line → Type 0
Chooses None old new = IsEmpty old × Keeps old new
Chooses (Some (chosen.Datagrams number)) old new = LeavesDatagrams number old new
Chooses (Some (chosen.Other number)) old new = LeavesOthers number old new

-- a datagram socket that left its queue has had a step
pub record ReturnsDatagram (number : ℕ) (old new : Line) : Type 0 where
  pub datagrams : Returns number DATAGRAMS_A_TURN old.datagrams new.datagrams
  pub others : Stays old.others new.others
  pub between : new.between ≡ old.between
  pub listeners : new.listeners ≡ old.listeners

-- another socket that left its queue has had a step
pub record ReturnsOther (number : ℕ) (old new : Line) : Type 0 where
  pub datagrams : Stays old.datagrams new.datagrams
  pub others : Returns number (most_steps old.listeners number) old.others new.others
  pub between : new.between ≡ old.between
  pub listeners : new.listeners ≡ old.listeners

-- its number
abbrev pub number_of : Chosen → ℕ
number_of (chosen.Datagrams number) = number
number_of (chosen.Other number) = number

abbrev pub ComesBack : Chosen → Line → Line → Type 0
ComesBack (chosen.Datagrams number) old new = ReturnsDatagram number old new
ComesBack (chosen.Other number) old new = ReturnsOther number old new

-- a datagram socket has a step
pub record TakesDatagram (number : ℕ) (ends : Bool) (old new : Line) : Type 0 where
  pub may : MayTakeDatagram old
  pub datagrams : Serves number ends DATAGRAMS_A_TURN old.datagrams new.datagrams
  pub others : Stays old.others new.others
  pub between : new.between ≡ 0
  pub listeners : new.listeners ≡ old.listeners

-- another socket has a step
pub record TakesOther (number : ℕ) (ends : Bool) (old new : Line) : Type 0 where
  pub may : MayTakeOther old
  pub datagrams : Stays old.datagrams new.datagrams
  pub others : Serves number ends (most_steps old.listeners number) old.others new.others
  pub between : new.between ≡ min (old.between + 1) STEPS_BETWEEN
  pub listeners : new.listeners ≡ old.listeners
