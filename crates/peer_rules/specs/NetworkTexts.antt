-- Networks as text.
use Rattle.std.specs.Prelude.{◌≡◌, ◌⊎◌, ℕ, ◌<◌, ◌==◌, List, length, Option, Some, None, Result, Err}
use Rattle.std.specs.List.{after_first, before_first, position_or_len}
use Rattle.std.specs.Net.Grammar.{IsIpText}
use Rattle.std.specs.Str.Parse.{IsNumeral, digits_value}
use Rattle.std.specs.declared.net.ip_addr.IpAddr.{IpAddr}
use Rattle.peer_rules.specs.Addresses.{width_of}
use Rattle.peer_rules.specs.Networks.{Makes}
use Rattle.peer_rules.specs.declared.network.Network.{Network}
use Rattle.peer_rules.specs.declared.network_fault.NetworkFault.{NetworkFault}
use Rattle.peer_rules.specs.declared.network_fault.NetworkFault.TheVariants.{Address, Length}

-- what stands before the first slash, and what behind it
abbrev pub address_part : List ℕ → List ℕ
address_part text = before_first (λ b. b == 47) text

abbrev pub length_part : List ℕ → List ℕ
length_part text = after_first (λ b. b == 47) text

abbrev pub HasSlash : List ℕ → Type 0
HasSlash text = position_or_len (λ b. b == 47) text < length text

-- decimal digits are read, if their number is below 256
abbrev pub ReadsLength : List ℕ → Option ℕ → Type 0
ReadsLength text None = ¬ (IsNumeral 10 text × (digits_value 10 text < 256))
ReadsLength text (Some n) = IsNumeral 10 text × ((digits_value 10 text < 256) × (n ≡ digits_value 10 text))

-- what an address and the length behind the slash make, if there is a slash; without one all bits of the address count
abbrev pub MakesNetwork : List ℕ → IpAddr → Result Network NetworkFault → Type 0
MakesNetwork text address result =
    (¬ (HasSlash text) × Makes address (width_of address) result)
    ⊎ (HasSlash text × (((n : ℕ) × (ReadsLength (length_part text) (Some n) × Makes address n result))
    ⊎ (ReadsLength (length_part text) None × (result ≡ Err Length))))

-- What a text is read as: the network that it writes, or why it writes none. It is no address only if what stands before the first
-- slash writes none.
abbrev pub Reads : List ℕ → Result Network NetworkFault → Type 0
Reads text result =
    ((result ≡ Err Address) × ((address : IpAddr) → ¬ (IsIpText (address_part text) address)))
    ⊎ ((address : IpAddr) × (IsIpText (address_part text) address × MakesNetwork text address result))
