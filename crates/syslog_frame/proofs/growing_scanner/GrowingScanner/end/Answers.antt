use Rattle.std.proofs.Common.{arith, inl}
use Rattle.syslog_frame.specs.Fields.{scan_of}
use Rattle.syslog_frame.proofs.Calls.{none_unless_frame, open_at, reading_open}
use Rattle.syslog_frame.proofs.Reading.{read_nothing}
use Rattle.syslog_frame.proofs.growing_scanner.GrowingScanner.end.Goals as goal

pub returns-else-self-clause-stands : goal.returns-else-self-clause-stands
returns-else-self-clause-stands c = λ kind position p h.
    let s = rw (← c.self.view_is) at h in
    let other = reading_open (scan_of c.self.inside) (open_at c.self.inside.phase c.in-Counting.is) in (
      none_unless_frame _ _ kind position p (λ e. other.0 (inl e)) s,
      omega (arith, s.start_is, s.position_is, c.if-self.false),
      s.start_is,
    )

pub returns-else-self-clause-reads : goal.returns-else-self-clause-reads
returns-else-self-clause-reads c = λ kind first octets frames rest r.
    let s = rw (← c.self.view_is) at r in
    let is = reading_open (scan_of c.self.inside) (open_at c.self.inside.phase c.in-Counting.is) in
    let frames-are = read_nothing _ _ kind first octets frames rest is s in (
      frames-are.0,
      frames-are.1,
      omega (arith, s.stands.start_is, s.stands.position_is, c.if-self.false),
      s.stands.start_is,
    )
