use Rattle.std.proofs.Common.{rules}
use Rattle.store_reading.specs.Days.{IsPeriodText}
use Rattle.store_reading.proofs.SegmentNames.{ending_is, segment_named}
use Rattle.store_reading.proofs.names.segment_period.Goals as goal

pub returns-clause-some : goal.returns-clause-some
returns-clause-some c =
    segment_named IsPeriodText c.named_period.result c.args.name.now c.in_ok-front.front.now c.split_at.result.0.now
    c.split_at.result.1.now _
    (ending_is c.args.name.now c.as_slice.result.now c.in_ok-front.front c.as_slice.ensures c.in_ok-front.ensures.cases)
    c.split_at.ensures.front c.split_at.ensures.back (c.is_dotted_digest.ensures.0 (search rules))
    c.named_period.ensures.some
