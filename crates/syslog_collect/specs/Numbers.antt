-- The connection of a number.
use Rattle.std.specs.Prelude.{◌≡◌, ◌==◌, ◌≤◌, ℕ, ◌+◌, cond, nat_eq, Bool, true, Option, Some, None}
use Rattle.std.specs.HashMap as hash
use Rattle.slab.specs.Slab.{Slab, get, slab_len}
use Rattle.syslog_collect.specs.declared.connection.Connection.{Connection}
use Rattle.syslog_collect.specs.declared.connections.Connections.{Connections}

-- a connection, if it has this number
abbrev pub numbered : ℕ → Option Connection → Option Connection
numbered d None = None
numbered d (Some x) = cond (x.number == d) (Some x) None

-- what is in a place under a number
abbrev pub connection_at : Slab Connection → ℕ → Option ℕ → Option Connection
connection_at slots d None = None
connection_at slots d (Some place) = numbered d (get slots place)

-- the connection of a number, if it is open
abbrev pub connection_in : Connections → ℕ → Option Connection
connection_in cs d = connection_at cs.slots d (hash.get nat_eq cs.places d)

-- how many are open
abbrev pub count_in : Connections → ℕ
count_in cs = slab_len cs.slots

-- a number is open, and its connection is in this place
pub record HoldsAt (cs : Connections) (number place : ℕ) : Type 0 where
  pub connection : Connection
  pub place_is : hash.get nat_eq cs.places number ≡ Some place
  pub is : get cs.slots place ≡ Some connection
  pub same_number : connection.number ≡ number

-- a connection was opened under its number, and the others are what they were
pub record Opens (old new : Connections) (x : Connection) : Type 0 where
  pub at : (d : ℕ) → connection_in new d ≡ cond (x.number == d) (Some x) (connection_in old d)
  pub count : count_in new ≡ count_in old + 1
  pub limit : new.limit ≡ old.limit
  pub room : old.slots.capacity ≤ new.slots.capacity

-- the connection of a number is another, and the others are what they were
pub record Becomes (old new : Connections) (number : ℕ) (x : Connection) : Type 0 where
  pub at : (d : ℕ) → connection_in new d ≡ cond (number == d) (Some x) (connection_in old d)
  pub count : count_in new ≡ count_in old
  pub limit : new.limit ≡ old.limit
  pub room : old.slots.capacity ≤ new.slots.capacity

-- a number was closed, and the others are what they were
pub record Closes (old new : Connections) (number : ℕ) : Type 0 where
  pub at : (d : ℕ) → connection_in new d ≡ cond (number == d) None (connection_in old d)
  pub count : count_in new + 1 ≡ count_in old
  pub limit : new.limit ≡ old.limit
  pub room : old.slots.capacity ≤ new.slots.capacity

-- all are what they were
pub record KeepsAll (old new : Connections) : Type 0 where
  pub at : (d : ℕ) → connection_in new d ≡ connection_in old d
  pub count : count_in new ≡ count_in old
  pub limit : new.limit ≡ old.limit
  pub room : old.slots.capacity ≤ new.slots.capacity

-- a connection, if there is one, has reserved the room for a whole record
abbrev pub has_reserved : Option Connection → Bool
has_reserved None = true
has_reserved (Some x) = x.scanner.reserved

-- each of them has
abbrev pub AllReserved : Connections → Type 0
AllReserved cs = (d : ℕ) → has_reserved (connection_in cs d) ≡ true
