use Rattle.std.proofs.Common.{refl}
use Rattle.syslog_collect.proofs.Found.{frame_waits}
use Rattle.syslog_collect.proofs.Numbering.{held_at}
use Rattle.syslog_collect.proofs.collector.Collector.frame_waits.Goals as goal

pub index-requires : goal.index-requires
index-requires g c = rw c.in-Some.ensures.found.is refl

pub returns-in-Err-Unreleased-clause-one : goal.returns-in-Err-Unreleased-clause-one
returns-in-Err-Unreleased-clause-one g c waits past first events was =
    let cs = c.args.self.now.connections in
    let x = c.index.result.now in
    let is = (held_at cs c.args.conn c.in-Some.place x c.in-Some.ensures.found c.index.ensures).0 in
    frame_waits c.args.self.now.reading c.args.conn x cs _ first events is
    (c.in-Err-Unreleased.ensures.unreleased.0 (rw c.in-Err-Unreleased.field-0-is refl)) was
