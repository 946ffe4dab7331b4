-- Who may send.
use Rattle.std.proofs.Common.{◌≡◌, ℕ, ◌<◌, List, get_or, inr, length, subst, sym}
use Rattle.peer_rules.specs.AllowLists.{MaySend}
use Rattle.peer_rules.specs.Networks.{IsIn}
use Rattle.peer_rules.specs.declared.network.Network.{Network}

-- a network that is at a place has the number
pub may_send_at : (networks items : List Network) (k number : ℕ) (network : Network) → items ≡ networks → k < length items
    → network ≡ get_or items k network → IsIn network number → MaySend networks number
may_send_at networks items k number network same within is has =
    subst (λ (ns : List Network). MaySend ns number) same (inr (k, network, within, sym is, has))
