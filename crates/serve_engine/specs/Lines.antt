-- The lines of a server.
use Rattle.std.specs.Prelude.{ℕ, Bool, true, false, List, [], ◌++◌, codes, decimal}
use Rattle.std.specs.Net.Text.{socket_text}
use Rattle.frame_engine.specs.Line.{line_text}
use Rattle.frame_engine.specs.declared.line.Line.TheVariants as line
use Rattle.syslog_collect.specs.declared.outcome.Outcome.{Outcome}
use Rattle.syslog_collect.specs.declared.outcome.Outcome.TheVariants.{New, Held, Refused, RefusedLegacy, TooLong, BadCount}
use Rattle.syslog_frame.specs.declared.framing.Framing.{Framing}
use Rattle.syslog_frame.specs.declared.framing.Framing.TheVariants.{Counted, Lf}
use Rattle.serve_engine.specs.declared.counts.ServeCounts.{ServeCounts}
use Rattle.serve_engine.specs.declared.lines.Happening.{Happening}
use Rattle.serve_engine.specs.declared.lines.Happening.TheVariants as happening
use Rattle.serve_engine.specs.declared.peers.Way.{Way}
use Rattle.serve_engine.specs.declared.peers.Way.TheVariants.{Stream, Udp, Unix}

-- it is a bad count
abbrev pub is_bad_count : Outcome → Bool
is_bad_count New = false
is_bad_count Held = false
is_bad_count (Refused fault) = false
is_bad_count (RefusedLegacy offset) = false
is_bad_count TooLong = false
is_bad_count (BadCount at) = true

-- it is that of a frame that is refused, of which a line is told
abbrev pub is_refused : Outcome → Bool
is_refused New = false
is_refused Held = false
is_refused (Refused fault) = true
is_refused (RefusedLegacy offset) = true
is_refused TooLong = true
is_refused (BadCount at) = false

-- ---- texts

-- the way by which octets came, and a space
abbrev pub framing_text : Framing → List ℕ
framing_text Counted = codes "counted "
framing_text Lf = codes "lf "

abbrev pub way_text : Way → List ℕ
way_text (Udp peer) = codes "udp " ++ (socket_text peer ++ codes " ")
way_text Unix = codes "unix -" ++ codes " "
way_text (Stream framing peer) = framing_text framing ++ (socket_text peer ++ codes " ")

-- the peer at the other end
abbrev pub peer_text : Way → List ℕ
peer_text (Udp peer) = socket_text peer
peer_text Unix = codes "-"
peer_text (Stream framing peer) = socket_text peer

-- why the frame with this number is refused
abbrev pub outcome_text : ℕ → Outcome → List ℕ
outcome_text number New = []
outcome_text number Held = []
outcome_text number (Refused fault) = line_text (line.Refused number fault)
outcome_text number (RefusedLegacy offset) = line_text (line.LegacyNotUtf8 number offset)
outcome_text number TooLong = line_text (line.TooLong number)
outcome_text number (BadCount at) = []

-- the line on it
abbrev pub refused_text : Way → ℕ → Outcome → List ℕ
refused_text way number outcome = way_text way ++ outcome_text number outcome

-- the line on what happened at a position of a connection
abbrev pub at_text : Way → List ℕ → ℕ → List ℕ
at_text way words at = way_text way ++ (words ++ (decimal at ++ codes "\n"))

-- the line on what happened to a connection or a datagram
abbrev pub happening_text : Way → Happening → List ℕ
happening_text way (happening.Unterminated start) = at_text way (codes "unterminated ") start
happening_text way (happening.BadCount at) = at_text way (codes "bad-count ") at
happening_text way happening.Reset = peer_text way ++ codes " reset\n"
happening_text way happening.Idle = peer_text way ++ codes " idle\n"
happening_text way happening.TurnedAway = peer_text way ++ codes " closed: too many connections\n"
happening_text way happening.NotAllowed = peer_text way ++ codes " not allowed\n"
happening_text way happening.OverRate = peer_text way ++ codes " over-rate\n"
happening_text way happening.NoMemory = peer_text way ++ codes " closed: want of memory\n"
happening_text way happening.Dropped = peer_text way ++ codes " dropped: want of memory\n"

-- the counts: of records, of what was refused, and of what was done
abbrev pub records_text : ServeCounts → List ℕ
records_text c = codes "received " ++ (decimal c.received
    ++ (codes " new " ++ (decimal c.new ++ (codes " held " ++ decimal c.held))))

abbrev pub refusals_text : ServeCounts → List ℕ
refusals_text c = codes " refused " ++ (decimal c.refused
    ++ (codes " too-long " ++ (decimal c.too_long ++ (codes " connections " ++ decimal c.connections))))

abbrev pub batches_text : ServeCounts → List ℕ
batches_text c = codes " batches " ++ (decimal c.batches
    ++ (codes " octets " ++ (decimal c.octets ++ (codes " quiet " ++ decimal c.quiet))))

abbrev pub counted_text : ServeCounts → List ℕ
counted_text c = records_text c ++ (refusals_text c ++ batches_text c)

-- and of peers that may not send, if they are asked for
abbrev pub not_allowed_text : Bool → ServeCounts → List ℕ
not_allowed_text true c = codes " not-allowed " ++ decimal c.not_allowed
not_allowed_text false c = []

-- and of datagrams above the rates of their peers
abbrev pub over_rate_text : Bool → ServeCounts → List ℕ
over_rate_text true c = codes " over-rate " ++ decimal c.over_rate
over_rate_text false c = []

-- the line of counts
abbrev pub counts_text : ServeCounts → Bool → Bool → List ℕ
counts_text c with_not_allowed with_over_rate =
    counted_text c ++ (not_allowed_text with_not_allowed c ++ (over_rate_text with_over_rate c ++ codes "\n"))
