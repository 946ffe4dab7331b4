use Rattle.socket_source.specs.Runs.{ended, ends_of_datagrams, ends_of_others}
use Rattle.socket_source.proofs.Rounds.{datagrams_in_order, first_behind, others_in_order}
use Rattle.socket_source.proofs.law.turn_comes.Goals as goal

pub returns-clause-datagrams : goal.returns-clause-datagrams
returns-clause-datagrams c turns old new has within =
    first_behind (ended (ends_of_datagrams turns)) old.datagrams.numbers new.datagrams.numbers (datagrams_in_order turns old new has) within

pub returns-clause-others : goal.returns-clause-others
returns-clause-others c turns old new has within =
    first_behind (ended (ends_of_others turns)) old.others.numbers new.others.numbers (others_in_order turns old new has) within
