use Rattle.std.specs.Option.{option_map}
use Rattle.store_reading.proofs.Nearest.{no_first_day, with_first_day}
use Rattle.store_reading.proofs.days.next_day.Goals as goal

pub returns-in-None : goal.returns-in-None
returns-in-None c =
    no_first_day (option_map (λ d. d.now) c.args.last) c.args.names.now c.args.text.now c.next_segment_day-next.result
    c.first_day.result c.next_segment_day-next.ensures c.in-None.is c.first_day.ensures

pub returns-in-Some : goal.returns-in-Some
returns-in-Some c =
    with_first_day (option_map (λ d. d.now) c.args.last) c.args.names.now c.args.text.now c.in-Some.day
    c.next_segment_day-next.result c.nearer.result c.next_segment_day-next.ensures c.in-Some.ensures c.nearer.ensures
