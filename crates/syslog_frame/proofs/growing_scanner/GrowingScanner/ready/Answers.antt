use Rattle.std.proofs.Common.{◌+◌, length}
use Rattle.syslog_frame.proofs.Reading.{read_nothing, read_frame, read_long, read_bad}
use Rattle.syslog_frame.specs.Fields.{scan_of}
use Rattle.syslog_frame.proofs.Calls.{none_unless_frame, reading_or_failed, reading_standing}
use Rattle.syslog_frame.proofs.growing_scanner.GrowingScanner.ready.Goals as goal

pub returns-then-self-clause-reads : goal.returns-then-self-clause-reads
returns-then-self-clause-reads c = λ kind first octets frames rest r.
    let s = rw (← c.self.view_is) at r in
    rw c.deref.ensures.value (read_frame _ _ kind first octets frames rest c.in-Ended.is c.if-self.true s)

pub returns-else-self-clause-reads : goal.returns-else-self-clause-reads
returns-else-self-clause-reads c = λ kind first octets frames rest r.
    let s = rw (← c.self.view_is) at r in
    read_long _ _ kind first octets frames rest c.in-Ended.is c.if-self.false s

pub returns-in-BadCount-clause-reads : goal.returns-in-BadCount-clause-reads
returns-in-BadCount-clause-reads c = λ kind first octets frames rest r.
    let s = rw (← c.self.view_is) at r in
    read_bad _ _ kind first octets frames rest c.in-BadCount.is s

pub returns-in_default-clause-reports : goal.returns-in_default-clause-reports
returns-in_default-clause-reports c = rw (← c.self.view_is)
    (reading_or_failed (scan_of c.self.inside) c.in_default.not-Ended c.in_default.not-BadCount)

pub returns-in_default-clause-stands : goal.returns-in_default-clause-stands
returns-in_default-clause-stands c = λ kind position p h.
    let s = rw (← c.self.view_is) at h in (
      none_unless_frame _ _ kind position p c.in_default.not-Ended s,
      rw (← c.self.view_is) (reading_standing _ _ kind position p c.in_default.not-Ended c.in_default.not-BadCount s),
    )

pub returns-in_default-clause-reads : goal.returns-in_default-clause-reads
returns-in_default-clause-reads c = λ kind first octets frames rest r.
    let s = rw (← c.self.view_is) at r in
    read_nothing _ _ kind first octets frames rest
    (reading_standing _ _ kind (first + length octets) rest c.in_default.not-Ended c.in_default.not-BadCount
    s.stands) s
