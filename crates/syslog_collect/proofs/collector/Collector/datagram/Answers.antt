use Rattle.std.proofs.Common.{arith, refl}
use Rattle.syslog_collect.proofs.Found.{datagram_handled, keeps_same}
use Rattle.syslog_collect.proofs.collector.Collector.datagram.Goals as goal

pub returns-clause-goes_on : goal.returns-clause-goes_on
returns-clause-goes_on g c = record {
  stands = λ past first events was.
      datagram_handled c.args.self.now.reading _ past _ _ first events c.args.octets.now c.handle.result
      c.handle.ensures.outcome c.handle.ensures.err was;
  reading = refl;
  reserves = refl;
  whole = λ on all. all;
  limit = refl;
  room = omega arith;
}

pub returns-clause-connections : goal.returns-clause-connections
returns-clause-connections g c = keeps_same c.args.self.now.connections
