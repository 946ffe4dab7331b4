use Rattle.std.proofs.Common.{List, ℕ, subst}
use Rattle.store_reading.specs.Damages.{IsOtherDigest, Tells}
use Rattle.store_reading.specs.Segments.{IsNamedBy}
use Rattle.store_upkeep.specs.Compaction.{shown}
use Rattle.store_expiry.proofs.Surveying.{surveyed_at}
use Rattle.store_expiry.proofs.Causing.{archive_damaged, digest_damaged}
use Rattle.store_expiry.proofs.survey.survey_segment.Goals as goal

pub returns-in-Ok-check_digest-clause-surveyed : goal.returns-in-Ok-check_digest-clause-surveyed
returns-in-Ok-check_digest-clause-surveyed g c tells sound segment =
    let state = g.D.File.Input.state in
    surveyed_at c.args.expired.now (shown (g.D.Disk.state c.args.disk.now)) c.args.name.now c.args.period.now
    (state c.in_ok-file.file) (state c.survey_archive.new.reader) c.in-Ok.found
    (c.in_ok-file.ensures.opened tells sound) segment c.in-Ok.ensures.surveyed
    (subst (λ (n : List ℕ). IsNamedBy c.args.period.now n c.in-Ok.found.hex) c.as_octets.ensures.value
    c.in-Ok-check_digest.ensures.named)

pub returns-in-Err-clause-cause : goal.returns-in-Err-clause-cause
returns-in-Err-clause-cause g c t sound segment n =
    let state = g.D.File.Input.state in
    let files = shown (g.D.Disk.state c.args.disk.now) in
    c.survey_fault.ensures c.args.expired.now files
    (archive_damaged files c.args.name.now c.args.period.now (state c.in_ok-file.file) c.in-Err.fault
    (c.in_ok-file.ensures.opened t sound) segment c.in-Err.ensures.damaged) n

pub returns-clause-cause : goal.returns-clause-cause
returns-clause-cause g c t sound segment n =
    let state = g.D.File.Input.state in
    let files = shown (g.D.Disk.state c.args.disk.now) in
    c.survey_fault-in-Err-check_digest.ensures c.args.expired.now files
    (digest_damaged c.args.expired.now files c.args.name.now c.args.period.now (state c.in_ok-file.file)
    (state c.survey_archive.new.reader) c.in-Ok.found c.in-Err-check_digest.fault
    (c.in_ok-file.ensures.opened t sound) segment c.in-Ok.ensures.surveyed
    (subst (λ (n : List ℕ). Tells c.in-Err-check_digest.fault (IsOtherDigest c.args.period.now n c.in-Ok.found.hex))
    c.as_octets.ensures.value c.in-Err-check_digest.ensures.damaged)) n
