use Rattle.std.proofs.Common.{ℕ, List, refl, ◌∙◌}
use Rattle.journal.specs.Journals.{IsSound}
use Rattle.archive_text.specs.Entries.{Entry}
use Rattle.store_reading.proofs.Causing.{at_err}
use Rattle.store_upkeep.specs.Compaction.{shown}
use Rattle.store_expiry.specs.Causes.{IsExpireCause}
use Rattle.store_expiry.specs.Surveys.{IsArchiveAt, IsLeftOver}
use Rattle.store_expiry.specs.declared.fault.ExpireFault.{ExpireFault}
use Rattle.store_expiry.proofs.Causing.{fault_back, taken_back}
use Rattle.store_expiry.proofs.Resting.{name_free}
use Rattle.store_expiry.proofs.Taking.{archive_still}
use Rattle.store_expiry.proofs.rest.name_of_rest.Goals as goal

pub returns-in_err-is_taken-clause-cause : goal.returns-in_err-is_taken-clause-cause
returns-in_err-is_taken-clause-cause g c =
    let x = c.args.expired.now in
    let zero = g.D.Disk.state c.args.disk.now in
    let one = g.D.Disk.state c.name_of_draft.new.disk in
    let two = g.D.Disk.state c.is_taken.new.disk in
    at_err c.from_residual-in_err-is_taken.result c.in_err-is_taken.field-0.0
    (λ (f : ExpireFault). g.D.Disk.tells c.is_taken.new.disk → IsSound zero → (left : List Entry)
    → IsArchiveAt (shown zero) c.args.draft.now left → IsLeftOver x (shown zero) c.args.period.now left → (n : ℕ)
    → IsExpireCause x (shown zero) n n f) c.from_residual-in_err-is_taken.ensures.1
    (λ t sound left rest over n.
    let same = c.name_of_draft.ensures.same (c.is_taken.ensures.told t) in
    fault_back x zero one same n n c.in_err-is_taken.field-0.0
    (c.in_err-is_taken.ensures.cause t (same.lost ∙ sound) c.in_ok-name.ensures.segment n))

pub returns-then-branch-clause-cause : goal.returns-then-branch-clause-cause
returns-then-branch-clause-cause g c t sound left rest over n =
    let x = c.args.expired.now in
    let zero = g.D.Disk.state c.args.disk.now in
    let one = g.D.Disk.state c.name_of_draft.new.disk in
    let told = c.is_taken.ensures.told t in
    let same = c.name_of_draft.ensures.same told in
    let segment = c.in_ok-name.ensures.segment in (
      taken_back x zero one same c.in_ok-name.name c.args.period.now left over
          (c.in_ok-name.ensures.name told sound _ rest.file)
          (c.in_ok-is_taken.ensures.taken c.if-branch.true t (same.lost ∙ sound) segment left
          (archive_still zero one c.args.draft.now left same rest)),
      refl,
    )

pub returns-clause-free : goal.returns-clause-free
returns-clause-free g c t sound left rest =
    let zero = g.D.Disk.state c.args.disk.now in
    let one = g.D.Disk.state c.name_of_draft.new.disk in
    let told = c.is_taken.ensures.told t in
    let same = c.name_of_draft.ensures.same told in
    let segment = c.in_ok-name.ensures.segment in
    name_free zero one c.in_ok-name.name c.args.period.now left same segment
    (c.in_ok-name.ensures.name told sound _ rest.file)
    (c.in_ok-is_taken.ensures.free c.if-branch.false t (same.lost ∙ sound) segment left
    (archive_still zero one c.args.draft.now left same rest))
