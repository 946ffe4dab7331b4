use Rattle.std.proofs.Common.{ℕ, ◌∙◌}
use Rattle.store_upkeep.specs.Compaction.{shown}
use Rattle.journal.specs.Journals.{IsSound}
use Rattle.record_store.specs.Names.{IsSegment}
use Rattle.store_reading.proofs.Causing.{at_err}
use Rattle.store_expiry.specs.Causes.{IsExpireCause}
use Rattle.store_expiry.specs.declared.fault.ExpireFault.{ExpireFault}
use Rattle.store_expiry.proofs.Causing.{fault_back}
use Rattle.store_expiry.proofs.Taking.{archive_of, archive_still, free_then, not_off, on_not, others_then}
use Rattle.store_expiry.proofs.taken.is_taken.Goals as goal

pub returns-in_err-survey_segment-clause-cause : goal.returns-in_err-survey_segment-clause-cause
returns-in_err-survey_segment-clause-cause g c =
    let x = c.args.expired.now in
    let zero = g.D.Disk.state c.args.disk.now in
    let one = g.D.Disk.state c.is_there.new.disk in
    at_err c.from_residual-in_err-survey_segment.result c.in_err-survey_segment.field-0.0
    (λ (f : ExpireFault). g.D.Disk.tells c.survey_segment.new.disk → IsSound zero
    → IsSegment c.args.period.now c.args.name.now → (n : ℕ) → IsExpireCause x (shown zero) n n f)
    c.from_residual-in_err-survey_segment.ensures.1
    (λ t sound segment n.
    let same = c.is_there.ensures.same (c.survey_segment.ensures.told t) in
    fault_back x zero one same n n c.in_err-survey_segment.field-0.0
    (c.in_err-survey_segment.ensures.cause t (same.lost ∙ sound) segment n))

pub returns-clause-free : goal.returns-clause-free
returns-clause-free g c off t sound segment left rest =
    let x = c.args.expired.now in
    let zero = g.D.Disk.state c.args.disk.now in
    let one = g.D.Disk.state c.is_there.new.disk in
    let two = g.D.Disk.state c.survey_segment.new.disk in
    let t_two = c.has_no_more.ensures.told t in
    let t_one = c.survey_segment.ensures.told t_two in
    let same = c.is_there.ensures.same t_one in
    let then = c.survey_segment.ensures.same t_two in
    let v = c.in_ok-survey_segment.ensures.surveyed t_two (same.lost ∙ sound) segment in
    free_then zero one c.args.name.now c.args.period.now v.entries left same v.is_file
    (c.in_ok-none.ensures.none (not_off c.in_ok-none.none off) t (then.lost ∙ (same.lost ∙ sound)) v.entries left
    (archive_still one two c.args.name.now v.entries then (archive_of (shown one) c.args.name.now c.args.period.now v.entries v.is_file))
    (archive_still one two c.args.draft.now left then (archive_still zero one c.args.draft.now left same rest)))

pub returns-clause-taken : goal.returns-clause-taken
returns-clause-taken g c on t sound segment left rest =
    let x = c.args.expired.now in
    let zero = g.D.Disk.state c.args.disk.now in
    let one = g.D.Disk.state c.is_there.new.disk in
    let two = g.D.Disk.state c.survey_segment.new.disk in
    let t_two = c.has_no_more.ensures.told t in
    let t_one = c.survey_segment.ensures.told t_two in
    let same = c.is_there.ensures.same t_one in
    let then = c.survey_segment.ensures.same t_two in
    let v = c.in_ok-survey_segment.ensures.surveyed t_two (same.lost ∙ sound) segment in
    others_then zero one c.args.name.now c.args.period.now v.entries left same v.is_file
    (c.in_ok-none.ensures.more (on_not c.in_ok-none.none on) t (then.lost ∙ (same.lost ∙ sound)) v.entries left
    (archive_still one two c.args.name.now v.entries then (archive_of (shown one) c.args.name.now c.args.period.now v.entries v.is_file))
    (archive_still one two c.args.draft.now left then (archive_still zero one c.args.draft.now left same rest)))
