use Rattle.std.proofs.Common.{◌++◌, take, get_or, ◌∙◌, arith}
use Rattle.syslog_frame.specs.Count.{IsNextDigit}
use Rattle.syslog_frame.proofs.Counts.{count_space, count_digit}
use Rattle.syslog_frame.proofs.Cuts.{one_taken}
use Rattle.syslog_frame.proofs.count.count_on.Goals as goal

pub returns-in-None-clause-counts : goal.returns-in-None-clause-counts
returns-in-None-clause-counts c = λ p h.
    one_taken p c.args.octets.now c.loop-i.i c.loop-i-test.true
    ∙ count_space c.loop-i.count _ _ (c.loop-i.invariant.digits p h) (omega arith) (omega arith)

pub loop-i-preserved : goal.loop-i-preserved
loop-i-preserved c =
    let d = c.in-Some.ensures in
    let next : IsNextDigit c.loop-i.count (get_or c.args.octets.now c.loop-i.i 0) = d.0 in
    record {
      small = omega (arith, d.1, next.2);
      digits = λ p h.
          rw (d.1, one_taken p c.args.octets.now c.loop-i.i c.loop-i-test.true)
          (count_digit c.loop-i.count (get_or c.args.octets.now c.loop-i.i 0)
          (p ++ take c.loop-i.i c.args.octets.now) (c.loop-i.invariant.digits p h) next);
    }
