-- The sockets that have something, in the order of their turns.
use Rattle.std.specs.Prelude.{◌≡◌, ◌⊎◌, ℕ, ◌+◌, ◌<◌, true, false, ◌++◌, is_some, length, min, vec_len}
use Rattle.std.specs.Option.{option_to_list}
use Rattle.std.specs.VecDeque.{deque_capacity}
use Rattle.socket_source.specs.Kinds.{has_datagrams}
use Rattle.socket_source.specs.Runs.{ServesThen}
use Rattle.socket_source.specs.Waiting.{Keeps, Line, Queue, Queues}
use Rattle.socket_source.specs.declared.ready.ReadyQueue.{ReadyQueue}
use Rattle.socket_source.specs.declared.ready_sockets.ReadySockets.{ReadySockets}
use Rattle.socket_source.specs.declared.sockets.Sockets.{Sockets}
use Rattle.socket_source.specs.declared.sockets.TheConstants.{ROUND_MAX}

-- the number that goes on with its turn, and those that wait for one
abbrev pub queue_of : ReadyQueue → Queue
queue_of ready = record {
  numbers = option_to_list ready.going ++ ready.waiting.items;
  goes_on = is_some ready.going;
  steps = ready.steps;
}

abbrev pub line_of : ReadySockets → Line
line_of ready = record {
  datagrams = queue_of ready.datagrams;
  others = queue_of ready.others;
  between = ready.between;
  listeners = vec_len ready.kinds;
}

abbrev pub line : {R : Type 0} → Sockets R → Line
line s = line_of s.ready

-- how many sockets have something
abbrev pub ready_in : Line → ℕ
ready_in l = length l.datagrams.numbers + length l.others.numbers

-- the round is over, and the system has been asked for more: the next one has steps if any socket has something
pub record Asks {R : Type 0} (old new : Sockets R) : Type 0 where
  pub over : old.round ≡ 0
  pub keeps : Keeps (line old) (line new)
  pub round : new.round ≡ min (ready_in (line new)) ROUND_MAX

-- a turn gave no step: a tick was told before, the system has been asked for more, or a socket had its step, if any has something
abbrev pub Passes : {R : Type 0} → Sockets R → Sockets R → Type 0
Passes old new = (new.early < old.early) ⊎ (Asks old new ⊎ ServesThen (line old) (line new))

-- a number is put into a queue
abbrev pub QueuesIn : ReadyQueue → ReadyQueue → ℕ → Type 0
QueuesIn old new number = Queues (deque_capacity old.waiting) old.queued.items new.queued.items
    old.waiting.items new.waiting.items number

-- the number of a datagram socket is put into the queue of these, and any other into the other queue
pub record Puts (old new : ReadySockets) (number : ℕ) : Type 0 where
  pub datagrams : has_datagrams old.kinds.items number ≡ true → QueuesIn old.datagrams new.datagrams number × (new.others ≡ old.others)
  pub others : has_datagrams old.kinds.items number ≡ false → QueuesIn old.others new.others number × (new.datagrams ≡ old.datagrams)
  pub kinds : new.kinds ≡ old.kinds
