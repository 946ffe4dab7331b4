-- Peers, as the pace of notes knows them.
use Rattle.std.specs.Prelude.{◌+◌, ◌*◌, ◌^◌, ℕ}
use Rattle.std.specs.Net.Addr.{ipv4_bits, ipv6_bits}
use Rattle.std.specs.Net.Socket.{socket_ip}
use Rattle.std.specs.declared.net.ip_addr.IpAddr.{IpAddr}
use Rattle.std.specs.declared.net.ip_addr.IpAddr.TheVariants.{V4, V6}
use Rattle.serve_engine.specs.declared.peers.Way.{Way}
use Rattle.serve_engine.specs.declared.peers.Way.TheVariants.{Stream, Udp, Unix}

-- the number of an address: that of an IPv4 address is the one of the IPv6 address that maps it, ::ffff:a.b.c.d
abbrev pub number_of : IpAddr → ℕ
number_of (V4 ip) = 65535 * 2 ^ 32 + ipv4_bits ip
number_of (V6 ip) = ipv6_bits ip

-- the number of the peer at the other end, whatever its port; all senders without an address are one
abbrev pub peer_of : Way → ℕ
peer_of (Udp peer) = number_of (socket_ip peer)
peer_of Unix = 0
peer_of (Stream framing peer) = number_of (socket_ip peer)
