use Rattle.store_reading.proofs.Parted.{first_is, no_first}
use Rattle.store_reading.proofs.days.first_day.Goals as goal

pub returns-in-Ok : goal.returns-in-Ok
returns-in-Ok c day first = first_is c.args.text.now day c.of.result _ _ c.in-Ok.ensures c.of.ensures first

pub returns-in-Err : goal.returns-in-Err
returns-in-Err c day first = absurd (no_first c.args.text.now day _ c.in-Err.ensures first)
