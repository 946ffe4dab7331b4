use Rattle.std.proofs.Common.{ap, map, subst, sym, ◌∙◌}
use Rattle.store_reading.specs.Segments.{AreSegmentsOf}
use Rattle.store_upkeep.specs.Compaction.{shown}
use Rattle.store_upkeep.proofs.DayJoins.{is_join, others_then, union_written}
use Rattle.store_upkeep.proofs.segments.join_segments.Goals as goal

pub returns-clause-joined : goal.returns-clause-joined
returns-clause-joined g c tells sound are =
    let files = shown (g.D.Disk.state c.args.disk.now) in
    let begun = c.settle.ensures.told tells in
    let opened = c.begin.ensures.told begun in
    let same = c.open_segments.ensures.same opened in
    let taken = (g.D.Draft.Output.state c.join_streams.new.writer).taken in
    is_join (g.D.Disk.state c.args.disk.now) (g.D.Disk.state c.settle.new.disk) c.args.draft.now c.args.period.now
    c.args.segments.now taken
    (union_written files c.args.segments.now c.args.period.now _ _ _ taken _
    (subst (AreSegmentsOf files c.args.segments.now c.args.period.now)
    (sym (ap (map g.D.File.Input.state) c.as_mut_slice.ensures.value))
    (c.in_ok-inputs.ensures.opened opened sound are))
    (c.in_ok-writer.ensures.empty begun) c.in_default.ensures.outcome)
    (λ text is. c.in_ok-settle.ensures.settled tells text is
    (c.begin.ensures.lost begun ∙ (same.lost ∙ sound)))

pub returns-clause-others : goal.returns-clause-others
returns-clause-others g c tells =
    let begun = c.settle.ensures.told tells in
    let opened = c.begin.ensures.told begun in
    others_then (g.D.Disk.state c.args.disk.now) (g.D.Disk.state c.open_segments.new.disk)
    (g.D.Disk.state c.begin.new.disk) (g.D.Disk.state c.settle.new.disk) c.args.draft.now
    (c.open_segments.ensures.same opened) (c.begin.ensures.others begun) (c.settle.ensures.others tells)

pub returns-clause-whole : goal.returns-clause-whole
returns-clause-whole g c tells sound are =
    c.in_ok-inputs.ensures.whole (c.begin.ensures.told (c.settle.ensures.told tells)) sound are
