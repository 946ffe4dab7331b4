-- Who may send.
use Rattle.std.specs.Prelude.{◌≡◌, ◌⊎◌, ℕ, ◌/◌, ◌^◌, ◌==◌, ◌&&◌, ◌||◌, Bool, List, [], Any, length, nat_le, not}
use Rattle.std.specs.List.{list_any}
use Rattle.peer_rules.specs.Addresses.{prefix}
use Rattle.peer_rules.specs.Networks.{IsIn}
use Rattle.peer_rules.specs.declared.address.TheConstants.{MAPPED}
use Rattle.peer_rules.specs.declared.allow_list.AllowList.{AllowList}
use Rattle.peer_rules.specs.declared.network.Network.{Network}

-- the networks of a list, in the order in which they were added
abbrev pub networks_of : AllowList → List Network
networks_of list = list.networks.items

-- there are no networks, or one of them has the number
abbrev pub MaySend : List Network → ℕ → Type 0
MaySend networks number = (networks ≡ []) ⊎ Any (λ network. IsIn network number) networks

-- the same two, as tests
abbrev pub is_in : Network → ℕ → Bool
is_in network number = (prefix network.length number == prefix network.length network.first)
    && (not (number / 2 ^ 32 == MAPPED / 2 ^ 32) || nat_le 96 network.length)

unfoldable pub may_send : List Network → ℕ → Bool
may_send networks number = (length networks == 0) || list_any (λ network. is_in network number) networks
