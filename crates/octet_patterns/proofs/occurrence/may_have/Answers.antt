use Rattle.std.proofs.Common.{◌-◌, arith, length}
use Rattle.octet_patterns.proofs.Finding.{last_looked, none_further}
use Rattle.octet_patterns.proofs.occurrence.may_have.Goals as goal

pub loop-from-preserved : goal.loop-from-preserved
loop-from-preserved c = (
  omega (arith, c.loop-from-test.true),
  none_further c.args.octets.now c.args.text.now c.loop-from.from c.may_stand.result c.loop-from.invariant.1
      c.may_stand.ensures c.if-may_stand.false,
)

pub returns : goal.returns
returns c = λ k h.
    let places = length c.args.text.now - (length c.args.octets.now - 1) in
    last_looked c.args.octets.now c.args.text.now c.loop-from.from (places - 16) c.may_stand-2.result
    c.loop-from.invariant.1 (omega (arith, c.loop-from-test.false)) c.may_stand-2.ensures k
    (omega (arith, h.fits, c.requires.some, c.requires.fits)) h
