-- How the streams of connections are framed, and whose they are.
use Rattle.std.specs.Prelude.{ℕ, Option, option_map}
use Rattle.std.specs.Option.{option_map_or}
use Rattle.slab.specs.Slab.{Slab, get}
use Rattle.syslog_frame.specs.declared.framing.Framing.{Framing}
use Rattle.socket_source.specs.Peers.{count_of}
use Rattle.socket_source.specs.declared.connection.Connection.{Connection}
use Rattle.socket_source.specs.declared.peers.Peers.{Peers}

-- the framing of the connection under a number, if it is open
abbrev pub framing_in : Slab Connection → ℕ → Option Framing
framing_in connections n = option_map (λ c. c.framing) (get connections n)

-- how many connections the address of the connection under a number has; none if it is not open
abbrev pub rank_in : Peers → Slab Connection → ℕ → ℕ
rank_in peers connections n = option_map_or (λ c. count_of peers c.peer) (get connections n) 0
