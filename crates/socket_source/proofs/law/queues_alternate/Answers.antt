use Rattle.socket_source.proofs.Alternating.{datagrams_in_a_row, others_in_a_row}
use Rattle.socket_source.proofs.law.queues_alternate.Goals as goal

pub returns-clause-datagrams : goal.returns-clause-datagrams
returns-clause-datagrams c turns old new has some few alone = datagrams_in_a_row turns old new has some few alone

pub returns-clause-others : goal.returns-clause-others
returns-clause-others c turns old new has some alone = others_in_a_row turns old new has some alone
