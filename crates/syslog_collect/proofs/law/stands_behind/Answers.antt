use Rattle.std.specs.Prelude.{◌++◌}
use Rattle.syslog_collect.proofs.Collecting.{stands_members}
use Rattle.syslog_collect.proofs.Headline.{holds_received}
use Rattle.syslog_collect.proofs.law.stands_behind.Goals as goal

pub returns-clause-members : goal.returns-clause-members
returns-clause-members g c store past since first events was same =
    stands_members c.args.collector.now.reading c.args.collector.now.connections
    (past ++ g.S.Store.entries c.args.collector.now.store) (since ++ g.S.Store.entries store) first events same was

pub returns-clause-received : goal.returns-clause-received
returns-clause-received g c past first events was settled =
    holds_received c.args.collector.now.reading c.args.collector.now.connections
    (past ++ g.S.Store.entries c.args.collector.now.store) first events was settled
