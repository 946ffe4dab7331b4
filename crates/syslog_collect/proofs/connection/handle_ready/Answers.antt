use Rattle.std.proofs.Common.{inl}
use Rattle.syslog_collect.proofs.Hearing.{no_bad_count, tells_ready, told_of}
use Rattle.syslog_collect.proofs.Ready.{handles_frame}
use Rattle.syslog_collect.proofs.connection.handle_ready.Goals as goal

pub returns-in-Ok-clause-handles : goal.returns-in-Ok-clause-handles
returns-in-Ok-clause-handles g c =
    let reported = rw c.in-Some-Frame.field-0-is at c.in-Some-Frame.ensures.reports in
    handles_frame c.args.reading _ _ _ c.in-Some-Frame.frame.now c.in-Ok.outcome reported c.in-Ok.ensures.outcome
    (λ kind first octets frames rest r. (rw c.in-Some-Frame.field-0-is at
    (c.in-Some-Frame.ensures.reads kind first octets frames rest r)).0)

pub returns-in-Err-clause-spelled : goal.returns-in-Err-clause-spelled
returns-in-Err-clause-spelled g c kind first octets frames rest r = (
  c.in-Some-Frame.frame.now,
  (rw c.in-Some-Frame.field-0-is at
      (c.in-Some-Frame.ensures.reads kind first octets frames rest r)).0,
  c.in-Err.ensures.spelled,
)

pub returns-in-Some-TooLong-clause-tells : goal.returns-in-Some-TooLong-clause-tells
returns-in-Some-TooLong-clause-tells g c kind first octets frames rest r =
    let f = rw c.in-Some-TooLong.field-0-is at (c.in-Some-TooLong.ensures.reads kind first octets frames rest r) in
    (f.0, f.1, inl c.passed_over-in-Some-TooLong.ensures)

pub returns-in-Ok-clause-tells : goal.returns-in-Ok-clause-tells
returns-in-Ok-clause-tells g c =
    let t = g.O.Observer.observes in
    let f = c.in-Some-Frame.frame.now in
    let o = c.in-Ok.outcome in
    let good = no_bad_count c.args.reading _ _ f o c.in-Ok.ensures.outcome in
    tells_ready t c.args.scanner.now c.args.observer.now c.frame.new.self o good
    (λ kind first octets frames rest r. (
      f,
      (rw c.in-Some-Frame.field-0-is at (c.in-Some-Frame.ensures.reads kind first octets frames rest r)).0,
      told_of t c.args.observer.now c.frame.new.self f o good c.frame.ensures,
    ))
