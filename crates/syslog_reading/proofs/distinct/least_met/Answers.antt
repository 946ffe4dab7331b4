use Rattle.std.proofs.Common.{inl, inr, refl}
use Rattle.syslog_value.proofs.Octets.{octets_ranked}
use Rattle.syslog_reading.proofs.Repeating.{above_when}
use Rattle.syslog_reading.proofs.Sorted.{one_of, same_when}
use Rattle.syslog_reading.proofs.distinct.least_met.Goals as goal

pub returns-in-Less-clause-met : goal.returns-in-Less-clause-met
returns-in-Less-clause-met c = inl (above_when c.args.last.now c.args.id.now c.cmp.result
    (octets_ranked c.args.last.now c.args.id.now c.cmp.result c.cmp.ensures) c.in-Less.is)

pub returns-in-Less-clause-one : goal.returns-in-Less-clause-one
returns-in-Less-clause-one c = inl refl

pub returns-in-Equal-clause-met : goal.returns-in-Equal-clause-met
returns-in-Equal-clause-met c = inr (inl (
  same_when c.args.last.now c.args.id.now c.cmp.result
      (octets_ranked c.args.last.now c.args.id.now c.cmp.result c.cmp.ensures) c.in-Equal.is,
  c.lesser.ensures.bounds.1,
))

pub returns-in-Equal-clause-one : goal.returns-in-Equal-clause-one
returns-in-Equal-clause-one c = one_of c.lesser.result c.args.at c.args.offset c.lesser.ensures.one

pub returns-in-Greater-clause-met : goal.returns-in-Greater-clause-met
returns-in-Greater-clause-met c = inr (inr refl)

pub returns-in-Greater-clause-one : goal.returns-in-Greater-clause-one
returns-in-Greater-clause-one c = inr (inr refl)
