use Rattle.std.proofs.Common.{arith}
use Rattle.syslog_fields.proofs.FirstElements.{turned_none, turned_more, turned_end, turned_all}
use Rattle.syslog_fields.proofs.backslash.ends_taking.Goals as goal

pub loop-i-init : goal.loop-i-init
loop-i-init c = turned_none c.args.octets.now

pub returns-then-octets-i-ne92 : goal.returns-then-octets-i-ne92
returns-then-octets-i-ne92 c =
    turned_end c.loop-i.takes c.args.octets.now c.loop-i.i c.loop-i-test.true c.if-octets-i-ne92.true
    c.loop-i.invariant

pub loop-i-preserved : goal.loop-i-preserved
loop-i-preserved c =
    turned_more c.loop-i.takes c.args.octets.now c.loop-i.i c.loop-i-test.true c.if-octets-i-ne92.false
    c.loop-i.invariant

pub returns : goal.returns
returns c = turned_all c.loop-i.takes c.args.octets.now c.loop-i.i (omega (arith, c.loop-i.auto.i-end, c.loop-i-test.false))
    c.loop-i.invariant
