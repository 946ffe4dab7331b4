use Rattle.syslog_legacy.specs.FrameReadings.{octets_read}
use Rattle.archive_engine.proofs.GatheringLemmas.{gathered_more}
use Rattle.archive_engine.proofs.gathering.Gathering+S+S+Fault.add.Goals as goal

pub returns-in-Ok-clause-gathered : goal.returns-in-Ok-clause-gathered
returns-in-Ok-clause-gathered g c = λ frame frames is h.
    let shown = rw c.in-Record.is at is in
    let k = c.in-Ok.ensures.ok (octets_read c.args.self.now.reading frame) shown.1.1 h.entries h.holds in
    gathered_more g.S.RecordSet.holds g.S.RecordSet.alike c.args.self.now.reading c.args.self.now.set _ frames frame h
    (record {
      r = k.0;
      entry = k.1;
      few = shown.0;
      is_read = shown.1.0.0 k.0 k.2;
      is_entry = k.3;
      holds = k.4;
    })

pub returns-in-Ok-add-clause-gathered : goal.returns-in-Ok-add-clause-gathered
returns-in-Ok-add-clause-gathered g c = λ frame frames is h.
    let read = c.in_ok-record-in-Legacy.ensures c.args.self.now.reading frame is in
    let k = c.in-Ok-add.ensures.ok h.entries h.holds in
    gathered_more g.S.RecordSet.holds g.S.RecordSet.alike c.args.self.now.reading c.args.self.now.set _ frames frame h
    (record {
      r = _;
      entry = k.0;
      few = read.0;
      is_read = read.1;
      is_entry = k.1;
      holds = k.2;
    })
