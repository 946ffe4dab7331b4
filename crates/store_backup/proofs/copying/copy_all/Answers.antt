use Rattle.store_backup.proofs.Stepping.{moved_backing, moved_copies}
use Rattle.store_backup.proofs.copying.copy_all.Goals as goal

pub returns-in_err-copy_listed-clause-copies : goal.returns-in_err-copy_listed-clause-copies
returns-in_err-copy_listed-clause-copies g c source tells backing =
    let files = g.F.Folder.files c.args.folder.now in
    let mid = g.F.Folder.files c.rounds.folder in
    let draft = c.args.draft.now in
    let inv = c.rounds.invariant in
    let before = c.copy_listed.ensures.told_source source in
    moved_copies files mid (inv.same before) draft (g.D.Disk.state c.copy_listed.new.target)
    (c.copy_listed.ensures.copies source tells
    (moved_backing files mid (inv.same before) draft (g.D.Disk.state c.rounds.target)
    (inv.backing before (c.copy_listed.ensures.told tells) backing)))

pub returns-then-branch-clause-copies : goal.returns-then-branch-clause-copies
returns-then-branch-clause-copies g c source tells backing =
    let files = g.F.Folder.files c.args.folder.now in
    let mid = g.F.Folder.files c.rounds.folder in
    let draft = c.args.draft.now in
    let inv = c.rounds.invariant in
    let before = c.copy_listed.ensures.told_source source in
    moved_copies files mid (inv.same before) draft (g.D.Disk.state c.copy_listed.new.target)
    (c.copy_listed.ensures.copies source tells
    (moved_backing files mid (inv.same before) draft (g.D.Disk.state c.rounds.target)
    (inv.backing before (c.copy_listed.ensures.told tells) backing)))
