use Rattle.std.proofs.Common.{rules}
use Rattle.socket_source.specs.Standings.{standing}
use Rattle.socket_source.proofs.Allowing.{allowed_by}
use Rattle.socket_source.proofs.socket_source.SocketSourceServerSource.next.Goals as goal

pub returns-clause-gave : goal.returns-clause-gave
returns-clause-gave g c = record {
  lawful = c.next_step-step.ensures.lawful;
  allowed = allowed_by (standing c.args.self.now.sockets) c.next_step-step.result c.next_step-step.ensures.lawful.may;
  counts = search rules;
  comes = search rules;
}
