use Rattle.syslog_frame.proofs.Delivered.{delivers_short, delivers_long}
use Rattle.syslog_frame.proofs.pieces.deliver.Goals as goal

pub returns-in_ok-push-in-Some-TooLong-clause-delivers : goal.returns-in_ok-push-in-Some-TooLong-clause-delivers
returns-in_ok-push-in-Some-TooLong-clause-delivers c = λ kind octets frames rest r.
    let q = rw c.in-Some-TooLong.field-0-is at (c.in-Some-TooLong.ensures.reads kind 0 octets frames rest r) in (
      q.0,
      q.1,
      delivers_long (λ v. v.items) c.args.out.now.items c.push.new.self.items _ q.0 q.2
          c.in_ok-push-in-Some-TooLong.ensures.items,
    )

pub returns-in_ok-push-in-Some-Frame-clause-delivers : goal.returns-in_ok-push-in-Some-Frame-clause-delivers
returns-in_ok-push-in-Some-Frame-clause-delivers c = λ kind octets frames rest r.
    let q = rw c.in-Some-Frame.field-0-is at (c.in-Some-Frame.ensures.reads kind 0 octets frames rest r) in (
      c.in-Some-Frame.frame.now,
      q.0,
      delivers_short (λ v. v.items) c.args.out.now.items
          c.push-in-Some-Frame.new.self.items _ c.in-Some-Frame.frame.now c.in_ok-copy-in-Some-Frame.copy
          c.in_ok-copy-in-Some-Frame.ensures.items q.1 c.in_ok-push-in-Some-Frame.ensures.items,
    )
