use Rattle.std.proofs.Common.{[], ap, refl}
use Rattle.syslog_collect.specs.Numbers.{has_reserved}
use Rattle.syslog_collect.proofs.Ordered.{by_number}
use Rattle.syslog_collect.proofs.Steps.{stands_first}
use Rattle.syslog_collect.proofs.collector.Collector.with_room.Goals as goal

pub returns-in-Ok-clause-stands : goal.returns-in-Ok-clause-stands
returns-in-Ok-clause-stands g c = by_number _ _ [] _ _ [] c.in-Ok.ensures.none c.in-Ok.ensures.count
    (stands_first c.args.reading (g.S.Store.entries c.args.store))

pub returns-in-Ok-clause-settled : goal.returns-in-Ok-clause-settled
returns-in-Ok-clause-settled g c = λ d. rw c.in-Ok.ensures.none refl

pub returns-in-Ok-clause-reserves : goal.returns-in-Ok-clause-reserves
returns-in-Ok-clause-reserves g c = (refl, λ d. ap has_reserved (c.in-Ok.ensures.none d))
