-- Addresses as numbers of 128 bits.
use Rattle.std.specs.Prelude.{◌≡◌, ℕ, ◌+◌, ◌-◌, ◌/◌, ◌^◌}
use Rattle.std.specs.Net.Addr.{ipv4_bits, ipv6_bits}
use Rattle.std.specs.declared.net.ip_addr.IpAddr.{IpAddr}
use Rattle.std.specs.declared.net.ip_addr.IpAddr.TheVariants.{V4, V6}
use Rattle.peer_rules.specs.declared.address.TheConstants.{MAPPED}

-- an address of IPv4 has the number of the IPv6 address that stands for it (RFC 4291, 2.5.5.2)
abbrev pub number_of : IpAddr → ℕ
number_of (V4 address) = MAPPED + ipv4_bits address
number_of (V6 address) = ipv6_bits address

-- the number is that of an IPv4 address: behind 80 bits 0 and 16 bits 1 it has 32 bits
abbrev pub IsIpv4 : ℕ → Type 0
IsIpv4 number = number / 2 ^ 32 ≡ MAPPED / 2 ^ 32

-- how many bits an address has
abbrev pub width_of : IpAddr → ℕ
width_of (V4 address) = 32
width_of (V6 address) = 128

-- the first so many of the 128 bits of a number, as a number
abbrev pub prefix : ℕ → ℕ → ℕ
prefix length number = number / 2 ^ (128 - length)

-- how many of the 128 bits of its number a prefix of an address has
abbrev pub full_length : IpAddr → ℕ → ℕ
full_length (V4 address) length = 96 + length
full_length (V6 address) length = length
