use Rattle.std.proofs.Common.{List, ℕ, subst, sym, ◌∙◌}
use Rattle.std.specs.Prelude.{Contains}
use Rattle.store_backup.proofs.Noting.{backs_then}
use Rattle.store_backup.proofs.Stepping.{both_done, moved_backing, moved_backs, moved_copies}
use Rattle.store_backup.proofs.copying.copy_listed.Goals as goal

pub returns-in_err-journals-clause-copies : goal.returns-in_err-journals-clause-copies
returns-in_err-journals-clause-copies g c source tells backing =
    let files = g.F.Folder.files c.args.folder.now in
    let mid = g.F.Folder.files c.list.new.folder in
    let draft = c.args.draft.now in
    let same = c.list.ensures.same (c.copy_each.ensures.told_source source) in
    moved_copies files mid same draft (g.D.Disk.state c.copy_each.new.target)
    (c.copy_each.ensures.copies source tells
    (moved_backing files mid same draft (g.D.Disk.state c.args.target.now) backing))

pub returns-in_err-segments-clause-copies : goal.returns-in_err-segments-clause-copies
returns-in_err-segments-clause-copies g c source tells backing =
    let files = g.F.Folder.files c.args.folder.now in
    let mid = g.F.Folder.files c.list.new.folder in
    let later = g.F.Folder.files c.copy_each.new.folder in
    let draft = c.args.draft.now in
    let zero = g.D.Disk.state c.args.target.now in
    let one = g.D.Disk.state c.copy_each.new.target in
    let before = c.copy_each-2.ensures.told_source source in
    let same = c.list.ensures.same (c.copy_each.ensures.told_source before) in
    let also = c.copy_each.ensures.same before ∙ same in
    let first = c.in_ok-journals.ensures.backs before (c.copy_each-2.ensures.told tells)
    (moved_backing files mid same draft zero backing) in
    moved_copies files later also draft (g.D.Disk.state c.copy_each-2.new.target)
    (c.copy_each-2.ensures.copies source tells
    (moved_backing files later also draft one
    (moved_backs files mid same draft zero one c.args.backup.now c.copy_each.new.backup first).backing))

pub returns-clause-copies : goal.returns-clause-copies
returns-clause-copies g c source tells backing =
    let files = g.F.Folder.files c.args.folder.now in
    let mid = g.F.Folder.files c.list.new.folder in
    let later = g.F.Folder.files c.copy_each.new.folder in
    let draft = c.args.draft.now in
    let zero = g.D.Disk.state c.args.target.now in
    let one = g.D.Disk.state c.copy_each.new.target in
    let before = c.copy_each-2.ensures.told_source source in
    let same = c.list.ensures.same (c.copy_each.ensures.told_source before) in
    let also = c.copy_each.ensures.same before ∙ same in
    let first = c.in_ok-journals.ensures.backs before (c.copy_each-2.ensures.told tells)
    (moved_backing files mid same draft zero backing) in
    moved_copies files later also draft (g.D.Disk.state c.copy_each-2.new.target)
    (c.copy_each-2.ensures.copies source tells
    (moved_backing files later also draft one
    (moved_backs files mid same draft zero one c.args.backup.now c.copy_each.new.backup first).backing))

pub returns-clause-backs : goal.returns-clause-backs
returns-clause-backs g c source tells backing =
    let files = g.F.Folder.files c.args.folder.now in
    let mid = g.F.Folder.files c.list.new.folder in
    let later = g.F.Folder.files c.copy_each.new.folder in
    let draft = c.args.draft.now in
    let zero = g.D.Disk.state c.args.target.now in
    let one = g.D.Disk.state c.copy_each.new.target in
    let two = g.D.Disk.state c.copy_each-2.new.target in
    let a = c.args.backup.now in
    let b = c.copy_each.new.backup in
    let d = c.copy_each-2.new.backup in
    let before = c.copy_each-2.ensures.told_source source in
    let same = c.list.ensures.same (c.copy_each.ensures.told_source before) in
    let also = c.copy_each.ensures.same before ∙ same in
    let first = moved_backs files mid same draft zero one a b
    (c.in_ok-journals.ensures.backs before (c.copy_each-2.ensures.told tells)
    (moved_backing files mid same draft zero backing)) in
    backs_then files zero one two draft a b d first
    (moved_backs files later also draft one two b d
    (c.in_ok-segments.ensures.backs source tells (moved_backing files later also draft one first.backing)))

pub returns-clause-done : goal.returns-clause-done
returns-clause-done g c source tells backing all =
    let files = g.F.Folder.files c.args.folder.now in
    let mid = g.F.Folder.files c.list.new.folder in
    let later = g.F.Folder.files c.copy_each.new.folder in
    let draft = c.args.draft.now in
    let zero = g.D.Disk.state c.args.target.now in
    let one = g.D.Disk.state c.copy_each.new.target in
    let two = g.D.Disk.state c.copy_each-2.new.target in
    let a = c.args.backup.now in
    let b = c.copy_each.new.backup in
    let d = c.copy_each-2.new.backup in
    let before = c.copy_each-2.ensures.told_source source in
    let told = c.copy_each-2.ensures.told tells in
    let same = c.list.ensures.same (c.copy_each.ensures.told_source before) in
    let also = c.copy_each.ensures.same before ∙ same in
    let held = moved_backing files mid same draft zero backing in
    let first = moved_backs files mid same draft zero one a b (c.in_ok-journals.ensures.backs before told held) in
    let held_still = moved_backing files later also draft one first.backing in
    both_done files one two draft b d c.in_ok-names.names.items
    (c.in_ok-names.ensures.names (c.copy_each.ensures.told_source before))
    (moved_backs files later also draft one two b d (c.in_ok-segments.ensures.backs source tells held_still))
    backing.apart
    (λ name has kind. c.in_ok-journals.ensures.done before told held (c.both.ensures.one all) name
    (subst (λ (l : List (List ℕ)). Contains l name) (sym c.deref.ensures.value) has) kind)
    (λ name has kind. c.in_ok-segments.ensures.done source tells held_still (c.both.ensures.other all) name
    (subst (λ (l : List (List ℕ)). Contains l name) (sym c.deref-2.ensures.value) has) kind)
