use Rattle.std.specs.Prelude.{IfErr, OnOk, codes}
use Rattle.std.proofs.Common.{List, ℕ, subst}
use Rattle.store_reading.specs.Damages.{IsDamagedSegment, IsOtherDigest, OfLeft, Tells}
use Rattle.store_reading.specs.Segments.{IsNamedBy}
use Rattle.store_reading.specs.declared.fault.CheckFault.{CheckFault}
use Rattle.store_reading.proofs.Causing.{at_err}
use Rattle.store_reading.proofs.Hashed.{damaged_segment, segment_checked, segment_refused}
use Rattle.store_reading.proofs.Whole.{on_ok}
use Rattle.store_reading.proofs.memory.add_segment.Goals as goal

pub returns-in_err-hex-clause-damaged : goal.returns-in_err-hex-clause-damaged
returns-in_err-hex-clause-damaged g c =
    let d = g.R.Input.state c.args.reader.now in
    let fault = c.in_err-hex.field-0.0 in
    let name = c.args.name.now in
    at_err c.from_residual.result fault
    (λ (f : CheckFault). OfLeft d (λ file. Tells f (IsDamagedSegment (codes "mixed") name file)))
    c.from_residual.ensures.1
    (λ file left. damaged_segment (codes "mixed") name file fault (c.in_err-hex.ensures.damaged file left))

pub returns-clause-adds : goal.returns-clause-adds
returns-clause-adds g c = on_ok c.check_digest.result c.in_ok-hex.ensures.adds

pub returns-clause-whole : goal.returns-clause-whole
returns-clause-whole g c =
    segment_checked (codes "mixed") c.args.name.now (g.R.Input.state c.args.reader.now)
    (g.R.Input.state c.add_entries.new.reader) c.in_ok-hex.hex c.check_digest.result c.in_ok-hex.ensures.hashed
    (subst (λ (p : List ℕ). OnOk c.check_digest.result (IsNamedBy p c.args.name.now c.in_ok-hex.hex)) c.mixed.ensures
    c.check_digest.ensures.named)

pub returns-clause-damaged : goal.returns-clause-damaged
returns-clause-damaged g c =
    segment_refused (codes "mixed") c.args.name.now (g.R.Input.state c.args.reader.now)
    (g.R.Input.state c.add_entries.new.reader) c.in_ok-hex.hex c.check_digest.result c.in_ok-hex.ensures.hashed
    (subst (λ (p : List ℕ). IfErr c.check_digest.result (λ fault. Tells fault (IsOtherDigest p c.args.name.now c.in_ok-hex.hex)))
    c.mixed.ensures c.check_digest.ensures.damaged)
