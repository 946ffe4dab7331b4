use Rattle.std.proofs.Common.{length}
use Rattle.socket_source.specs.Runs.{ended, ends_of_datagrams, ends_of_others}
use Rattle.socket_source.specs.Waiting.{steps_had}
use Rattle.socket_source.proofs.Rounds.{datagrams_ended, datagrams_within, others_ended, others_within}
use Rattle.socket_source.proofs.law.turns_end.Goals as goal

pub returns-clause-datagrams : goal.returns-clause-datagrams
returns-clause-datagrams c turns old new count has few all =
    datagrams_ended (length (ends_of_datagrams turns)) (ended (ends_of_datagrams turns)) (steps_had old.datagrams)
    (steps_had new.datagrams) count (datagrams_within turns old new has few) all

pub returns-clause-others : goal.returns-clause-others
returns-clause-others c turns old new count has few all =
    others_ended (length (ends_of_others turns)) (ended (ends_of_others turns)) (steps_had old.others)
    (steps_had new.others) count (others_within turns old new has few) all
