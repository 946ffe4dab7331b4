use Rattle.std.proofs.Common.{◌+◌, length}
use Rattle.std.proofs.lemmas.Bool.{false≢true}
use Rattle.syslog_frame.specs.Fields.{scan_of}
use Rattle.syslog_frame.proofs.Calls.{not_whole, bad_not_frame, none_ready}
use Rattle.syslog_frame.proofs.growing_scanner.GrowingScanner.release.Goals as goal

pub returns-in-BadCount-clause-stands : goal.returns-in-BadCount-clause-stands
returns-in-BadCount-clause-stands c = λ kind position p h w.
    let s = rw (← c.self.view_is) at h in
    absurd (not_whole _ _ kind position p (bad_not_frame (scan_of c.self.inside) c.in-BadCount.is) s w)

pub returns-in-BadCount-clause-reads : goal.returns-in-BadCount-clause-reads
returns-in-BadCount-clause-reads c = λ kind first octets frames rest f r w.
    let s = rw (← c.self.view_is) at r in
    absurd (not_whole _ _ kind (first + length octets) rest (bad_not_frame (scan_of c.self.inside) c.in-BadCount.is)
    s.stands (f, w))

pub returns-in_default-clause-value : goal.returns-in_default-clause-value
returns-in_default-clause-value c = (
  λ t. absurd (false≢true t),
  λ h.
      absurd (none_ready (scan_of c.self.inside) c.in_default.not-Ended c.in_default.not-BadCount
      (rw (← c.self.view_is) at h)),
)

pub returns-in_default-clause-stands : goal.returns-in_default-clause-stands
returns-in_default-clause-stands c = λ kind position p h w.
    let s = rw (← c.self.view_is) at h in
    absurd (not_whole _ _ kind position p c.in_default.not-Ended s w)

pub returns-in_default-clause-reads : goal.returns-in_default-clause-reads
returns-in_default-clause-reads c = λ kind first octets frames rest f r w.
    let s = rw (← c.self.view_is) at r in
    absurd (not_whole _ _ kind (first + length octets) rest c.in_default.not-Ended s.stands (f, w))
