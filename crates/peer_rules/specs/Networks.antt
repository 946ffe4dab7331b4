-- Networks: the addresses that begin with the same bits (RFC 4632, 3.1; RFC 4291, 2.3).
use Rattle.std.specs.Prelude.{◌≡◌, ◌≢◌, ℕ, ◌<◌, ◌≤◌, Result, Ok, Err}
use Rattle.std.specs.declared.net.ip_addr.IpAddr.{IpAddr}
use Rattle.peer_rules.specs.Addresses.{IsIpv4, full_length, number_of, prefix, width_of}
use Rattle.peer_rules.specs.declared.network.Network.{Network}
use Rattle.peer_rules.specs.declared.network_fault.NetworkFault.{NetworkFault}
use Rattle.peer_rules.specs.declared.network_fault.NetworkFault.TheVariants.{Address, Length, HostBits}

-- a network has the numbers that begin as it does; one that is not of IPv4 alone has none of IPv4
pub record IsIn (network : Network) (number : ℕ) : Type 0 where
  pub begins : prefix network.length number ≡ prefix network.length network.first
  pub of_its_kind : IsIpv4 number → 96 ≤ network.length

-- of so many bits, and it has the number
pub record IsAround (number length : ℕ) (network : Network) : Type 0 where
  pub length_is : network.length ≡ length
  pub begins : prefix length network.first ≡ prefix length number

-- A network is made of an address and a length: it has just these first bits, and none of the others is 1. Or it is refused: the
-- address has fewer bits, or it is another than the first of its network.
abbrev pub Makes : IpAddr → ℕ → Result Network NetworkFault → Type 0
Makes address length (Ok network) =
    (length ≤ width_of address) × ((network.first ≡ number_of address) × (network.length ≡ full_length address length))
Makes address length (Err Address) = ⊥
Makes address length (Err Length) = width_of address < length
Makes address length (Err (HostBits network)) =
    (length ≤ width_of address) × (IsAround (number_of address) (full_length address length) network
    × (network.first ≢ number_of address))
