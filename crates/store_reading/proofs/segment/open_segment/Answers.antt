use Rattle.std.proofs.Common.{List, ℕ, ◌≡◌, refl, subst}
use Rattle.store_reading.specs.Damages.{IsDamagedSegment, OfLeft, Tells}
use Rattle.store_reading.specs.Whole.{IsWholeSegment}
use Rattle.store_reading.proofs.Causing.{checked_cause}
use Rattle.store_reading.proofs.Segments.{input_result}
use Rattle.store_reading.proofs.segment.open_segment.Goals as goal

pub returns-in-Ok-clause-input : goal.returns-in-Ok-clause-input
returns-in-Ok-clause-input g c tells =
    let state = g.F.File.Input.state in
    let d = state c.in_ok-file.file in
    let before = c.open_file-in-Ok.ensures.told tells in
    input_result state (g.F.Folder.files c.args.folder.now) (g.F.Folder.files c.open_file.new.folder) c.args.name.now
    c.args.period.now d c.open_file-in-Ok.result (c.open_file.ensures.same before) (c.in_ok-file.ensures.opened before)
    (subst (λ (n : List ℕ). OfLeft d (IsWholeSegment c.args.period.now n)) c.as_octets.ensures.value
    c.in-Ok.ensures.whole)
    (c.open_file-in-Ok.ensures.opened tells) c.open_file-in-Ok.ensures.unused

pub returns-clause-cause : goal.returns-clause-cause
returns-clause-cause g c =
    let files = g.F.Folder.files c.args.folder.now in
    let d = g.F.File.Input.state c.in_ok-file.file in
    checked_cause (g.F.Folder.tells c.open_file.new.folder) (g.F.Folder.has_failed c.open_file.new.folder) files
    (λ (n : List ℕ). n ≡ c.args.name.now) (IsDamagedSegment c.args.period.now) c.args.name.now c.in_ok-copy-in-Err.field-0
    d c.in-Err.fault c.of.result refl c.in_ok-file.ensures.opened
    (subst (λ (n : List ℕ). OfLeft d (λ file. Tells c.in-Err.fault (IsDamagedSegment c.args.period.now n file)))
    c.as_octets.ensures.value c.in-Err.ensures.damaged) c.in_ok-copy-in-Err.ensures c.of.ensures
