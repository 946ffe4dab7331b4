use Rattle.std.proofs.Common.{rules}
use Rattle.peer_rules.specs.AllowLists.{networks_of}
use Rattle.socket_source.specs.Scripts.{standing_by}
use Rattle.socket_source.proofs.Allowing.{allowed_by}
use Rattle.socket_source.proofs.memory_source.MemorySourceServerSource.next.Goals as goal

pub returns : goal.returns
returns c =
    let source = c.args.self.now in
    record {
      lawful = c.give_next-step.ensures.lawful;
      allowed = allowed_by (standing_by source.flags.items source.listeners (networks_of source.allowed))
          c.give_next-step.result c.give_next-step.ensures.lawful.may;
      counts = search rules;
      comes = c.give_next-step.ensures.comes;
    }
