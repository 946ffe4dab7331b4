use Rattle.std.proofs.Common.{◌≡◌, ◌∙◌, List, ℕ, subst}
use Rattle.journal.specs.Journals.{IsOnDisk, IsSound}
use Rattle.archive_text.specs.Entries.{Entry}
use Rattle.record_store.specs.Puts.{LeavesOldOr}
use Rattle.record_store.specs.Renewals.{AreRenewalNames, Renewed}
use Rattle.record_store.specs.Shown.{IsNewestShown}
use Rattle.record_store.proofs.Anew.{drafted_keeps, moved_is, moved_keeps, name_apart, name_shown, next_no_draft}
use Rattle.record_store.proofs.Anew.{once_removed, placed_keeps, removes_any}
use Rattle.record_store.proofs.Drafted.{shows_of}
use Rattle.record_store.proofs.renewing.move_on.Goals as goal

pub returns-in_err-draft_copy-clause-any_moment : goal.returns-in_err-draft_copy-clause-any_moment
returns-in_err-draft_copy-clause-any_moment g c tells sound number octets names newest committed received keeps =
    drafted_keeps (g.D.Disk.state c.args.disk.now) (g.D.Disk.state c.draft_copy.new.disk) number octets c.args.from.now
    c.args.draft.now c.args.to.now names newest (c.draft_copy.ensures.others tells) committed received keeps

pub returns-in_err-place-clause-any_moment : goal.returns-in_err-place-clause-any_moment
returns-in_err-place-clause-any_moment g c tells sound number octets names newest committed received keeps =
    let zero = g.D.Disk.state c.args.disk.now in
    let one = g.D.Disk.state c.draft_copy.new.disk in
    let two = g.D.Disk.state c.place.new.disk in
    let from = c.args.from.now in
    let draft = c.args.draft.now in
    let to = c.args.to.now in
    let told = c.place.ensures.told tells in
    let others = c.draft_copy.ensures.others told in
    let shown = c.in_ok-draft_copy.ensures.drafted told sound
    (name_apart zero one number octets from draft to names newest others) octets
    (name_shown zero one number octets from draft to names newest others) in
    let file = shows_of one draft octets shown (c.draft_copy.ensures.lost told ∙ sound) in
    placed_keeps zero one number octets from draft to names newest others two
    (subst (LeavesOldOr one two to) file.2 (c.place.ensures.any_moment tells file.0 file.1
    (next_no_draft zero one number octets from draft to names newest others)))
    (c.place.ensures.others tells) committed received keeps

pub returns-clause-any_moment : goal.returns-clause-any_moment
returns-clause-any_moment g c tells sound number octets names newest committed received keeps =
    let zero = g.D.Disk.state c.args.disk.now in
    let one = g.D.Disk.state c.draft_copy.new.disk in
    let two = g.D.Disk.state c.place.new.disk in
    let three = g.D.Disk.state c.remove.new.self in
    let from = c.args.from.now in
    let draft = c.args.draft.now in
    let to = c.args.to.now in
    let tells_two = c.remove.ensures.told tells in
    let told = c.place.ensures.told tells_two in
    let others = c.draft_copy.ensures.others told in
    let shown = c.in_ok-draft_copy.ensures.drafted told sound
    (name_apart zero one number octets from draft to names newest others) octets
    (name_shown zero one number octets from draft to names newest others) in
    let file = shows_of one draft octets shown (c.draft_copy.ensures.lost told ∙ sound) in
    let no_draft = next_no_draft zero one number octets from draft to names newest others in
    moved_keeps zero one number octets from draft to names newest others two
    (subst (LeavesOldOr one two to) file.2 (c.place.ensures.any_moment tells_two file.0 file.1 no_draft))
    (c.place.ensures.others tells_two)
    (subst (IsOnDisk two to) file.2 (c.in_ok-place.ensures.placed tells_two file.0 file.1 no_draft)) three
    (removes_any two three from c.remove.result (c.remove.ensures.done tells)) committed received keeps

pub returns-clause-renewed : goal.returns-clause-renewed
returns-clause-renewed g c =
    let zero = g.D.Disk.state c.args.disk.now in
    let one = g.D.Disk.state c.draft_copy.new.disk in
    let two = g.D.Disk.state c.place.new.disk in
    let three = g.D.Disk.state c.remove.new.self in
    let from = c.args.from.now in
    let draft = c.args.draft.now in
    let to = c.args.to.now in
    once_removed (g.D.Disk.tells c.remove.new.self) (IsSound zero → (number : ℕ) (octets : List ℕ)
    → AreRenewalNames number from draft to → IsNewestShown zero number octets → Renewed zero three number octets)
    two three from c.remove.result c.remove.ensures.done
    (λ tells removes sound number octets names newest.
    let tells_two = c.remove.ensures.told tells in
    let told = c.place.ensures.told tells_two in
    let others = c.draft_copy.ensures.others told in
    let shown = c.in_ok-draft_copy.ensures.drafted told sound
    (name_apart zero one number octets from draft to names newest others) octets
    (name_shown zero one number octets from draft to names newest others) in
    let file = shows_of one draft octets shown (c.draft_copy.ensures.lost told ∙ sound) in
    let no_draft = next_no_draft zero one number octets from draft to names newest others in
    moved_is zero one number octets from draft to names newest others two
    (subst (LeavesOldOr one two to) file.2 (c.place.ensures.any_moment tells_two file.0 file.1 no_draft))
    (c.place.ensures.others tells_two)
    (subst (IsOnDisk two to) file.2 (c.in_ok-place.ensures.placed tells_two file.0 file.1 no_draft)) three removes)
