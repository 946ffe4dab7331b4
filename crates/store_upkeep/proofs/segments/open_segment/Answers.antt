use Rattle.std.proofs.Common.{List, ℕ, subst, ◌∙◌}
use Rattle.store_reading.specs.Damages.{OfLeft}
use Rattle.store_reading.specs.Whole.{IsWholeSegment}
use Rattle.store_upkeep.specs.Compaction.{shown}
use Rattle.store_upkeep.proofs.DayJoins.{input_result, on_ok}
use Rattle.store_upkeep.proofs.Verdicts.{segment_whole_at}
use Rattle.store_upkeep.proofs.segments.open_segment.Goals as goal

pub returns-in-Ok-clause-input : goal.returns-in-Ok-clause-input
returns-in-Ok-clause-input g c tells sound =
    let state = g.D.File.Input.state in
    let before = c.open-in-Ok.ensures.told tells in
    let same = c.in_ok-file.ensures.same before in
    input_result state (g.D.Disk.state c.args.disk.now) (g.D.Disk.state c.open.new.disk) c.args.name.now
    c.args.period.now (state c.in_ok-file.file) c.open-in-Ok.result same (c.in_ok-file.ensures.opened before sound)
    (subst (λ (n : List ℕ). OfLeft (state c.in_ok-file.file) (IsWholeSegment c.args.period.now n)) c.as_octets.ensures.value
    c.in-Ok.ensures.whole)
    (c.open-in-Ok.ensures.opened tells (same.lost ∙ sound)) c.open-in-Ok.ensures.unused

pub returns-in-Ok-clause-whole : goal.returns-in-Ok-clause-whole
returns-in-Ok-clause-whole g c =
    let state = g.D.File.Input.state in
    on_ok c.open-in-Ok.result _
    (λ tells sound segment.
    segment_whole_at (shown (g.D.Disk.state c.args.disk.now)) c.args.name.now c.args.period.now (state c.in_ok-file.file)
    segment (c.in_ok-file.ensures.opened (c.open-in-Ok.ensures.told tells) sound)
    (subst (λ (n : List ℕ). OfLeft (state c.in_ok-file.file) (IsWholeSegment c.args.period.now n))
    c.as_octets.ensures.value
    c.in-Ok.ensures.whole))
