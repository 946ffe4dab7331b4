use Rattle.std.proofs.Common.{rules}
use Rattle.peer_rules.specs.Addresses.{number_of}
use Rattle.peer_rules.proofs.Sending.{may_send_at}
use Rattle.peer_rules.proofs.allow_list.AllowList.allows.Goals as goal

pub returns-then-contains : goal.returns-then-contains
returns-then-contains c = (
  λ yes. may_send_at _ _ c.loop-network.network-index (number_of c.args.address) c.network-item.result
      c.deref-network-items.ensures.value c.loop-network-test.true c.network-item.is (c.contains.ensures.0 (search rules)),
  λ may. search rules,
)
