use Rattle.std.proofs.Common.{arith, rules}
use Rattle.option_values.proofs.ClockLemmas.{minutes_found}
use Rattle.option_values.proofs.clock_values.minutes.Goals as goal

pub returns : goal.returns
returns c =
    minutes_found c.args.digits.now c.in_ok-hours.hours c.in_ok-minutes.minutes c.from.result c.from-2.result
    (omega (arith, c.in-len4.len_at_least, c.in-len4.len_below)) (search rules) (search rules) (search rules)
    (search rules)
