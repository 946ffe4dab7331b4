use Rattle.std.proofs.Common.{◌≡◌, ℕ, ◌<◌}
use Rattle.std.specs.Prelude.{slice_index_or}
use Rattle.peer_rules.specs.Addresses.{number_of}
use Rattle.peer_rules.specs.Networks.{IsIn}
use Rattle.peer_rules.specs.declared.network.Network.{Network}
use Rattle.peer_rules.proofs.allow_list.AllowList.allows.Given as goal

-- none so far has the address
abbrev pub invariant-loop-network : goal.invariant-loop-network
invariant-loop-network l =
    (k : ℕ) (network : Network) → k < l.network-index → slice_index_or l.self.networks.items k network ≡ network
    → ¬ (IsIn network (number_of l.address))
