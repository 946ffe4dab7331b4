use Rattle.std.proofs.Common.{subst}
use Rattle.store_reading.specs.Damages.{IsDamagedSegment, OfLeft, Tells}
use Rattle.store_reading.specs.declared.fault.CheckFault.{CheckFault}
use Rattle.store_reading.proofs.Causing.{at_err}
use Rattle.store_reading.proofs.Hashed.{damaged_segment, segment_checked, segment_refused}
use Rattle.store_reading.proofs.segment_check.check_segment.Goals as goal

pub returns-in_err-hex-clause-damaged : goal.returns-in_err-hex-clause-damaged
returns-in_err-hex-clause-damaged g c =
    let d = g.R.Input.state c.args.reader.now in
    let fault = c.in_err-hex.field-0.0 in
    let day = c.args.period.now in
    let name = c.args.name.now in
    at_err c.from_residual.result fault (λ (f : CheckFault). OfLeft d (λ file. Tells f (IsDamagedSegment day name file)))
    c.from_residual.ensures.1
    (λ file left. damaged_segment day name file fault (c.in_err-hex.ensures.damaged file left))

pub returns-clause-whole : goal.returns-clause-whole
returns-clause-whole g c =
    segment_checked c.args.period.now c.args.name.now (g.R.Input.state c.args.reader.now)
    (g.R.Input.state c.hash_segment.new.reader) c.in_ok-hex.hex c.check_digest.result c.in_ok-hex.ensures.hashed
    c.check_digest.ensures.named

pub returns-clause-damaged : goal.returns-clause-damaged
returns-clause-damaged g c =
    segment_refused c.args.period.now c.args.name.now (g.R.Input.state c.args.reader.now)
    (g.R.Input.state c.hash_segment.new.reader) c.in_ok-hex.hex c.check_digest.result c.in_ok-hex.ensures.hashed
    c.check_digest.ensures.damaged
