use Rattle.std.proofs.Common.{[], refl, inl}
use Rattle.syslog_frame.proofs.Borrowing.{none_broken, none_unfinished}
use Rattle.syslog_frame.proofs.frame_ref.counted_frame.Goals as goal

pub counted_record-requires-in-Read-clause-digits : goal.counted_record-requires-in-Read-clause-digits
counted_record-requires-in-Read-clause-digits c = c.in-Read.ensures.counts [] (inl (refl, refl))

pub returns-in-Unfinished : goal.returns-in-Unfinished
returns-in-Unfinished c = none_unfinished _ c.in-Unfinished.count c.args.octets.now c.in-Unfinished.ensures.step
    (c.in-Unfinished.ensures.counts [] (inl (refl, refl)))

pub returns-in-Broken : goal.returns-in-Broken
returns-in-Broken c =
    let s = c.in-Broken.ensures.step in
    none_broken _ c.in-Broken.count c.in-Broken.at c.args.octets.now s.0 s.1 s.2
    (c.in-Broken.ensures.counts [] (inl (refl, refl)))
