use Rattle.socket_source.proofs.Rounds.{datagrams_in_order, others_in_order}
use Rattle.socket_source.proofs.law.turns_in_order.Goals as goal

pub returns-clause-datagrams : goal.returns-clause-datagrams
returns-clause-datagrams c turns old new has = datagrams_in_order turns old new has

pub returns-clause-others : goal.returns-clause-others
returns-clause-others c turns old new has = others_in_order turns old new has
