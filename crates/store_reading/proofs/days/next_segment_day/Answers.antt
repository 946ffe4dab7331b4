use Rattle.std.specs.Option.{option_map}
use Rattle.store_reading.proofs.NameOrders.{next_is}
use Rattle.store_reading.proofs.days.next_segment_day.Goals as goal

pub returns : goal.returns
returns c =
    next_is (option_map (λ d. d.now) c.args.last) c.last_octets.result.now c.args.names.now c.behind.result.now
    c.first_segment_day.result c.last_octets.ensures c.behind.ensures.within c.behind.ensures.all
    c.first_segment_day.ensures.segment c.first_segment_day.ensures.first
