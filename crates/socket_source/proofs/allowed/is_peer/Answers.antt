use Rattle.std.proofs.Common.{◌↔◌, subst}
use Rattle.std.specs.Net.Socket.{socket_ip}
use Rattle.std.specs.Prelude.{IsTrue}
use Rattle.std.specs.declared.net.ip_addr.IpAddr.{IpAddr}
use Rattle.peer_rules.specs.Addresses.{number_of}
use Rattle.peer_rules.specs.AllowLists.{MaySend, networks_of}
use Rattle.peer_rules.proofs.Deciding.{told_as}
use Rattle.socket_source.proofs.allowed.is_peer.Goals as goal

pub returns : goal.returns
returns c =
    told_as (networks_of c.args.allowed.now) (number_of (socket_ip c.args.peer)) c.allows.result
    (subst (λ (ip : IpAddr). IsTrue c.allows.result ↔ MaySend (networks_of c.args.allowed.now) (number_of ip)) c.ip.ensures
    c.allows.ensures)
