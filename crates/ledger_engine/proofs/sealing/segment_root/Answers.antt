use Rattle.std.proofs.Common.{List, ℕ, subst, ◌∙◌}
use Rattle.ledger_disk.specs.Below.{below}
use Rattle.store_reading.specs.Damages.{OfLeft}
use Rattle.store_reading.specs.Whole.{IsWholeSegment}
use Rattle.ledger_engine.proofs.Rooted.{root_in}
use Rattle.ledger_engine.proofs.sealing.segment_root.Goals as goal

pub returns-in-Ok-clause-root : goal.returns-in-Ok-clause-root
returns-in-Ok-clause-root g c tells sound =
    let one = g.D.File.Input.state c.in_ok-file.file in
    let told = c.open_segment-2.ensures.told tells in
    let same = c.open_segment.ensures.same told in
    root_in (g.D.Disk.state (below c.args.disk.now)) (g.D.Disk.state (below c.open_segment.new.disk)) c.args.period.now
    c.args.name.now c.hexadecimal.result one (g.D.File.Input.state c.in_ok-file-2.file)
    (g.D.File.Input.state c.root_of.new.reader) c.in-Ok.head same (c.in_ok-file.ensures.opened told sound)
    (subst (λ (n : List ℕ). OfLeft one (IsWholeSegment c.args.period.now n)) c.as_octets.ensures.value
    c.in_default.ensures.whole)
    (c.in_ok-file-2.ensures.opened tells (same.lost ∙ sound)) c.in-Ok.ensures.outcome c.hexadecimal.ensures
