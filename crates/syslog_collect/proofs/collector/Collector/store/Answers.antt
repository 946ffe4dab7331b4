use Rattle.syslog_collect.proofs.Headline.{holds_received}
use Rattle.syslog_collect.proofs.collector.Collector.store.Goals as goal

pub returns-clause-received : goal.returns-clause-received
returns-clause-received g c first events was settled = holds_received c.args.self.now.reading _ _ first events was
    settled
