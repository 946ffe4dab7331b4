-- A step that may come is one of a peer that may send.
use Rattle.std.proofs.Common.{◌≡◌, true, Some, None}
use Rattle.std.specs.Net.Socket.{socket_ip}
use Rattle.std.specs.Prelude.{nat_lt, not}
use Rattle.std.specs.declared.net.socket_addr.SocketAddr.{SocketAddr}
use Rattle.std.proofs.lemmas.Bool.{and_parts, not-true}
use Rattle.std.proofs.lemmas.Bool.Decides.{not_from_Decides}
use Rattle.peer_rules.specs.Addresses.{number_of}
use Rattle.peer_rules.specs.AllowLists.{MaySend}
use Rattle.peer_rules.proofs.Deciding.{may_send_decides}
use Rattle.socket_source.specs.Steps.{IsAllowed, Standing, is_peer, may_come}
use Rattle.socket_source.specs.declared.step.ServerStep.{ServerStep}
use Rattle.socket_source.specs.declared.step.ServerStep.TheVariants.{Opened, Piece, Ended, Datagram, TurnedAway}
use Rattle.socket_source.specs.declared.step.ServerStep.TheVariants.{NotAllowed, OverRate, Tick, InputEnded, Finished, Failed}

peer_may : (s : Standing) (peer : SocketAddr) → is_peer s.networks peer ≡ true
    → MaySend s.networks (number_of (socket_ip peer))
peer_may s peer e = (may_send_decides s.networks (number_of (socket_ip peer))).0 e

pub allowed_by : (s : Standing) (step : ServerStep) → may_come s step ≡ true → IsAllowed s.networks step
allowed_by s (Opened conn listener framing peer) may =
    let (at, rest) = and_parts (nat_lt listener s.listeners) _ may in
    let (below, new) = and_parts (nat_lt conn s.limit) _ rest in
    peer_may s peer (and_parts (not (s.live conn)) _ new).1
allowed_by s (Piece conn len) may = tt
allowed_by s (Ended conn end) may = tt
allowed_by s (Datagram listener None len) may = tt
allowed_by s (Datagram listener (Some peer) len) may = peer_may s peer (and_parts (nat_lt listener s.listeners) _ may).1
allowed_by s (TurnedAway listener framing peer) may = peer_may s peer (and_parts (nat_lt listener s.listeners) _ may).1
allowed_by s (OverRate listener peer) may = peer_may s peer (and_parts (nat_lt listener s.listeners) _ may).1
allowed_by s (NotAllowed listener peer) may =
    not_from_Decides (is_peer s.networks peer) (may_send_decides s.networks (number_of (socket_ip peer)))
    (not-true (is_peer s.networks peer) (and_parts (nat_lt listener s.listeners) _ may).1)
allowed_by s Tick may = tt
allowed_by s InputEnded may = tt
allowed_by s Finished may = tt
allowed_by s (Failed fault) may = tt
