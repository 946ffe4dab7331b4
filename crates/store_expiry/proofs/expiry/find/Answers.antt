use Rattle.std.proofs.Common.{ℕ, subst, sym}
use Rattle.record_store.specs.Names.{IsSegment}
use Rattle.store_upkeep.specs.Compaction.{shown}
use Rattle.store_expiry.proofs.Changing.{whole_surveyed}
use Rattle.store_expiry.proofs.Finding.{clear_spared, clear_surveyed, clear_unnamed, found_here, whole_spared}
use Rattle.store_expiry.proofs.Finding.{whole_unnamed}
use Rattle.store_expiry.proofs.Shedding.{clear_still, unchanged_sheds}
use Rattle.store_expiry.proofs.Taking.{not_off, on_not}
use Rattle.journal.specs.Journals.{IsSound}
use Rattle.store_reading.proofs.Causing.{at_err}
use Rattle.store_expiry.specs.Causes.{IsExpireCause}
use Rattle.store_expiry.specs.declared.fault.ExpireFault.{ExpireFault}
use Rattle.store_expiry.proofs.Causing.{fault_same}
use Rattle.store_expiry.proofs.expiry.find.Goals as goal

pub returns-in_default-clause-none : goal.returns-in_default-clause-none
returns-in_default-clause-none g c t sound none =
    clear_unnamed c.args.expired.now (shown (g.D.Disk.state c.args.disk.now)) c.args.name.now
    (λ period text segment.
    absurd (cc (c.in_default.ensures.only period text (subst (IsSegment period) (sym c.as_octets.ensures.value) segment))))

pub returns-then-spares-clause-none : goal.returns-then-spares-clause-none
returns-then-spares-clause-none g c t sound none =
    clear_spared c.args.expired.now (shown (g.D.Disk.state c.args.disk.now)) c.args.name.now
    (λ period segment. c.spares.ensures c.if-spares.true period
    (subst (IsSegment period) (sym c.as_octets-2.ensures.value) segment))

pub returns-then-not-survey-clause-none : goal.returns-then-not-survey-clause-none
returns-then-not-survey-clause-none g c t sound none =
    let x = c.args.expired.now in
    let zero = g.D.Disk.state c.args.disk.now in
    let one = g.D.Disk.state c.survey_segment.new.disk in
    let segment = subst (IsSegment c.in-Some.period) c.as_octets.ensures.value c.in-Some.ensures.some.1 in
    clear_still x zero one c.args.name.now (unchanged_sheds x zero one (c.survey_segment.ensures.same t))
    (clear_surveyed x (shown zero) c.args.name.now c.in-Some.period c.in_ok-survey.survey
    (c.in_ok-survey.ensures.surveyed t sound segment) (on_not c.in_ok-survey.survey.tally.expired c.if-not-survey.true))

pub returns-clause-found : goal.returns-clause-found
returns-clause-found g c t sound =
    let segment = subst (IsSegment c.in-Some.period) c.as_octets.ensures.value c.in-Some.ensures.some.1 in
    found_here c.args.expired.now (g.D.Disk.state c.args.disk.now) (g.D.Disk.state c.survey_segment.new.disk)
    c.args.name.now (record { period = c.in-Some.period; survey = c.in_ok-survey.survey })
    (c.survey_segment.ensures.same t) c.in-Some.ensures.some.0 (c.in_ok-survey.ensures.surveyed t sound segment)
    (not_off c.in_ok-survey.survey.tally.expired c.if-not-survey.false)

pub returns-in_default-clause-whole : goal.returns-in_default-clause-whole
returns-in_default-clause-whole g c t sound =
    whole_unnamed c.args.expired.now (shown (g.D.Disk.state c.args.disk.now)) c.args.name.now
    (λ period text segment.
    absurd (cc (c.in_default.ensures.only period text (subst (IsSegment period) (sym c.as_octets.ensures.value) segment))))

pub returns-then-spares-clause-whole : goal.returns-then-spares-clause-whole
returns-then-spares-clause-whole g c t sound =
    whole_spared c.args.expired.now (shown (g.D.Disk.state c.args.disk.now)) c.args.name.now
    (λ period segment. c.spares.ensures c.if-spares.true period
    (subst (IsSegment period) (sym c.as_octets-2.ensures.value) segment))

pub returns-then-not-survey-clause-whole : goal.returns-then-not-survey-clause-whole
returns-then-not-survey-clause-whole g c t sound =
    let segment = subst (IsSegment c.in-Some.period) c.as_octets.ensures.value c.in-Some.ensures.some.1 in
    whole_surveyed c.args.expired.now (shown (g.D.Disk.state c.args.disk.now)) c.args.name.now c.in-Some.period
    c.in_ok-survey.survey (c.in_ok-survey.ensures.surveyed t sound segment)

pub returns-clause-whole : goal.returns-clause-whole
returns-clause-whole g c t sound =
    let segment = subst (IsSegment c.in-Some.period) c.as_octets.ensures.value c.in-Some.ensures.some.1 in
    whole_surveyed c.args.expired.now (shown (g.D.Disk.state c.args.disk.now)) c.args.name.now c.in-Some.period
    c.in_ok-survey.survey (c.in_ok-survey.ensures.surveyed t sound segment)

pub returns-in_err-survey-clause-cause : goal.returns-in_err-survey-clause-cause
returns-in_err-survey-clause-cause g c =
    let x = c.args.expired.now in
    let zero = g.D.Disk.state c.args.disk.now in
    let one = g.D.Disk.state c.survey_segment.new.disk in
    at_err c.from_residual.result c.in_err-survey.field-0.0
    (λ (f : ExpireFault). g.D.Disk.tells c.survey_segment.new.disk → IsSound zero → (n : ℕ)
    → IsExpireCause x (shown one) n n f) c.from_residual.ensures.1
    (λ t sound n. fault_same x zero one (c.survey_segment.ensures.same t) n n c.in_err-survey.field-0.0
    (c.in_err-survey.ensures.cause t sound
    (subst (IsSegment c.in-Some.period) c.as_octets.ensures.value c.in-Some.ensures.some.1) n))
