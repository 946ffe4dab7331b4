use Rattle.std.proofs.Common.{◌+◌, refl}
use Rattle.syslog_frame.proofs.Reading.{moved_takes, moved_reads}
use Rattle.syslog_frame.proofs.growing_scanner.GrowingScanner.push.Goals as goal

pub returns-in-Ok-clause-takes : goal.returns-in-Ok-clause-takes
returns-in-Ok-clause-takes c = λ kind position p h other.
    let s = rw (← c.self.view_is) at h in
    moved_takes _ _
    (record {
      framing = c.self.inside.framing;
      position = c.self.inside.position + c.in-Ok.taken.used;
      start = c.self.inside.start;
      phase = c.in-Ok.taken.phase;
      count = c.in-Ok.taken.count;
      size = c.in-Ok.taken.size;
      kept = c.take_piece.new.kept.items;
      reserved = c.self.inside.reserved;
    })
    kind position p c.args.piece.now c.in-Ok.taken.used
    (record {
      within = c.in-Ok.ensures.advances.within;
      framing_is = refl;
      position_is = refl;
      start_is = refl;
      taken =
          c.in-Ok.ensures.advances.taken;
      holds = c.in-Ok.ensures.holds;
    }) s

pub returns-in-Ok-clause-reads : goal.returns-in-Ok-clause-reads
returns-in-Ok-clause-reads c = λ kind first octets frames rest r other.
    let s = rw (← c.self.view_is) at r in
    moved_reads _ _ _ kind first octets frames rest c.args.piece.now c.in-Ok.taken.used
    (record {
      within = c.in-Ok.ensures.advances.within;
      framing_is = refl;
      position_is = refl;
      start_is = refl;
      taken =
          c.in-Ok.ensures.advances.taken;
      holds = c.in-Ok.ensures.holds;
    }) s
