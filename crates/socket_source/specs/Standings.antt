-- What is open in a source over sockets.
use Rattle.std.specs.Prelude.{ℕ, Option, vec_len}
use Rattle.peer_rules.specs.AllowLists.{networks_of}
use Rattle.syslog_frame.specs.declared.framing.Framing.{Framing}
use Rattle.socket_source.specs.Framings.{framing_in}
use Rattle.socket_source.specs.Sockets.{open_in}
use Rattle.socket_source.specs.Steps.{Standing}
use Rattle.socket_source.specs.declared.open_sockets.OpenSockets.{OpenSockets}
use Rattle.socket_source.specs.declared.sockets.Sockets.{Sockets}

abbrev pub standing_of : OpenSockets → Standing
standing_of s = record {
  live = open_in s.connections.streams;
  limit = s.connections.limit;
  listeners = vec_len s.listeners;
  networks = networks_of s.allowed;
}

abbrev pub standing : {R : Type 0} → Sockets R → Standing
standing s = standing_of s.held

-- the framings of the connections that are open
abbrev pub framings_of : OpenSockets → ℕ → Option Framing
framings_of s = framing_in s.connections.streams

abbrev pub framings : {R : Type 0} → Sockets R → ℕ → Option Framing
framings s = framings_of s.held
