use Rattle.std.proofs.Common.{List, ℕ, subst}
use Rattle.store_reading.specs.Damages.{IsDamagedSegment, OfLeft, Tells}
use Rattle.store_reading.specs.Whole.{IsWholeSegment}
use Rattle.store_upkeep.proofs.Verdicts.{segment_verdict, segment_whole_at}
use Rattle.store_upkeep.proofs.verification.check_segment_file.Goals as goal

pub returns-in-Ok-clause-verdict : goal.returns-in-Ok-clause-verdict
returns-in-Ok-clause-verdict g c tells text segment =
    let d = g.F.File.Input.state c.in-Some.file in
    segment_whole_at (g.F.Folder.files c.args.folder.now) c.args.name.now c.args.period.now d segment
    (rw c.in-Some.is at (c.in_ok-file.ensures.opened tells))
    (subst (λ (n : List ℕ). OfLeft d (IsWholeSegment c.args.period.now n)) c.as_octets.ensures.value c.in-Ok.ensures.whole)

pub returns-clause-verdict : goal.returns-clause-verdict
returns-clause-verdict g c tells text segment =
    let d = g.F.File.Input.state c.in-Some.file in
    let day = c.args.period.now in
    segment_verdict (g.F.Folder.files c.args.folder.now) c.args.name.now day d c.in-Err.fault c.found_by.result text
    segment (rw c.in-Some.is at (c.in_ok-file.ensures.opened tells))
    (subst (λ (n : List ℕ). OfLeft d (λ file. Tells c.in-Err.fault (IsDamagedSegment day n file)))
    c.as_octets.ensures.value c.in-Err.ensures.damaged)
    c.found_by.ensures.found
