-- What public calls say of a collector: where it stands, and which of its frames wait.
use Rattle.std.specs.Prelude.{◌≡◌, ◌≤◌, ◌↔◌, ℕ, Bool, false, true, List, ◌++◌, Result, Err}
use Rattle.archive_text.specs.Entries.{Entry, Has}
use Rattle.syslog_legacy.specs.declared.frame_reading.FrameReading.{FrameReading}
use Rattle.syslog_collect.specs.declared.collector.Collector.{Collector}
use Rattle.syslog_collect.specs.declared.fault.CollectFault.{CollectFault}
use Rattle.syslog_collect.specs.declared.fault.CollectFault.TheVariants.{Memory}
use Rattle.syslog_collect.specs.Headline.{IsSettled}
use Rattle.syslog_collect.specs.History.{AcceptedEvent}
use Rattle.syslog_collect.specs.Logs.{waiting}
use Rattle.syslog_collect.specs.Numbers.{AllReserved, KeepsAll, connection_in, has_reserved}
use Rattle.syslog_collect.specs.Standing.{Stands as StandsWith}

-- its store
abbrev pub store_of : {S : Type 0} → Collector S → S
store_of c = c.store

-- the same with another store
abbrev pub with_store : {S : Type 0} → Collector S → S → Collector S
with_store c store = record c { store = store }

-- how it reads frames
abbrev pub reading_of : {S : Type 0} → Collector S → FrameReading
reading_of c = c.reading

-- for how many connections it has room
abbrev pub room_of : {S : Type 0} → Collector S → ℕ
room_of c = c.connections.slots.capacity

-- how many it may have open at a time
abbrev pub limit_of : {S : Type 0} → Collector S → ℕ
limit_of c = c.connections.limit

-- its connections reserve the room for a whole record as they are opened
abbrev pub reserves_of : {S : Type 0} → Collector S → Bool
reserves_of c = c.reserves

-- each of its connections has reserved that room
abbrev pub HasAllRoom : {S : Type 0} → Collector S → Type 0
HasAllRoom c = AllReserved c.connections

-- how many frames of each number wait, since memory was refused for them: none or one
abbrev pub waits_of : {S : Type 0} → Collector S → ℕ → ℕ
waits_of c = waiting c.connections

-- no frame waits
abbrev pub NoneWaits : {S : Type 0} → Collector S → Type 0
NoneWaits c = IsSettled c.connections

-- of each number as many frames wait in both
abbrev pub WaitAlike : {S : Type 0} → Collector S → Collector S → Type 0
WaitAlike old new = (d : ℕ) → waiting new.connections d ≡ waiting old.connections d

-- both have the same connections, each with the same octets
abbrev pub HaveSameConnections : {S : Type 0} → Collector S → Collector S → Type 0
HaveSameConnections old new = KeepsAll old.connections new.connections

-- it stands where first entries and the events since lead; a store's entries are told by a function
abbrev pub Stands : {S : Type 0} → (S → List Entry) → Collector S → List Entry → List AcceptedEvent → Type 0
Stands entries c first events = StandsWith c.reading c.connections (entries c.store) first events

-- entries that are kept elsewhere, as what a store has put on a disk and holds no more, and then a store's
abbrev pub behind : {S : Type 0} → List Entry → (S → List Entry) → S → List Entry
behind past entries store = past ++ entries store

-- the same entries are in both
abbrev pub HaveSameEntries : List Entry → List Entry → Type 0
HaveSameEntries one two = (x : Entry) → Has one x ↔ Has two x

-- wherever it stood, whatever is kept elsewhere, it stands there with these events more; how it reads frames, its limit,
-- its room and whether its connections reserve theirs are kept
pub record GoesOn {S : Type 0} (entries : S → List Entry) (old new : Collector S) (accepted : List AcceptedEvent) : Type
    0 where
  pub stands : (past first : List Entry) (events : List AcceptedEvent) → Stands (behind past entries) old first events →
      Stands (behind past entries) new first (events ++ accepted)
  pub reading : reading_of new ≡ reading_of old
  pub limit : limit_of new ≡ limit_of old
  pub reserves : reserves_of new ≡ reserves_of old
  pub whole : reserves_of old ≡ true → HasAllRoom old → HasAllRoom new
  pub room : room_of old ≤ room_of new

-- room for octets of a frame was refused to the connection of a number, which had reserved none: nothing was taken, and
-- nothing has changed
pub record LacksRoom {S A : Type 0} (old new : Collector S) (number : ℕ) (result : Result A CollectFault) : Type 0 where
  pub fault_is : result ≡ Err (Memory 0)
  pub same : HaveSameConnections old new
  pub grows : has_reserved (connection_in old.connections number) ≡ false
