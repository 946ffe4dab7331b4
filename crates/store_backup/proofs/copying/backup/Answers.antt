use Rattle.std.proofs.Common.{List, ℕ, subst}
use Rattle.record_store.specs.Names.{Counts}
use Rattle.store_backup.specs.Backups.{IsWritten}
use Rattle.store_backup.specs.Copies.{HasCopies}
use Rattle.store_backup.proofs.Holding.{copies_leave, holds_all, holds_no_other, settled_leave}
use Rattle.store_backup.proofs.Settling.{settled_backup, unsettled_copies}
use Rattle.store_backup.proofs.Stepping.{empty_backing, empty_shows}
use Rattle.store_backup.proofs.copying.backup.Goals as goal

pub returns-in_err-copied-clause-any_moment : goal.returns-in_err-copied-clause-any_moment
returns-in_err-copied-clause-any_moment g c source tells empty =
    let files = g.F.Folder.files c.args.folder.now in
    let one = g.D.Disk.state c.begin_copy.new.target in
    let two = g.D.Disk.state c.copy_all.new.target in
    let begun = c.in_ok-begin_copy.ensures.begun (c.copy_all.ensures.told tells) empty.sound in
    let backing = empty_backing files one c.in_ok-draft.draft c.in_ok-draft.ensures.apart begun in
    copies_leave files two
    (subst (HasCopies files two) c.in_ok-draft.ensures.named (c.copy_all.ensures.copies source tells backing))

pub returns-clause-any_moment : goal.returns-clause-any_moment
returns-clause-any_moment g c source tells empty =
    let files = g.F.Folder.files c.args.folder.now in
    let one = g.D.Disk.state c.begin_copy.new.target in
    let two = g.D.Disk.state c.copy_all.new.target in
    let three = g.D.Disk.state c.sync_names.new.self in
    let told = c.sync_names.ensures.told tells in
    let begun = c.in_ok-begin_copy.ensures.begun (c.copy_all.ensures.told told) empty.sound in
    let backing = empty_backing files one c.in_ok-draft.draft c.in_ok-draft.ensures.apart begun in
    copies_leave files three
    (subst (HasCopies files three) c.in_ok-draft.ensures.named
    (unsettled_copies files two three c.in_ok-draft.draft (c.in-Err.ensures.done tells)
    (c.copy_all.ensures.copies source told backing)))

pub returns-in-Ok-clause-backup : goal.returns-in-Ok-clause-backup
returns-in-Ok-clause-backup g c source tells sound =
    let files = g.F.Folder.files c.args.folder.now in
    let one = g.D.Disk.state c.begin_copy.new.target in
    let two = g.D.Disk.state c.copy_all.new.target in
    let three = g.D.Disk.state c.sync_names.new.self in
    let told = c.sync_names.ensures.told tells in
    let begun = c.in_ok-begin_copy.ensures.begun (c.copy_all.ensures.told told) sound in
    let backing = empty_backing files one c.in_ok-draft.draft c.in_ok-draft.ensures.apart begun in
    settled_backup files two three c.in_ok-copied.copied
    (subst (λ (d : List ℕ). IsWritten files two d c.in_ok-copied.copied) c.in_ok-draft.ensures.named
    (c.in_ok-copied.ensures.written source told backing (empty_shows one begun.none)))
    (c.in-Ok.ensures.done tells)

pub returns-in-Ok-clause-all : goal.returns-in-Ok-clause-all
returns-in-Ok-clause-all g c source tells sound none =
    holds_all (g.F.Folder.files c.args.folder.now) (g.D.Disk.state c.sync_names.new.self) c.in_ok-copied.copied
    (returns-in-Ok-clause-backup g c source tells sound)
    (subst (λ (d : List ℕ). ¬ (Counts d)) c.in_ok-draft.ensures.named c.in_ok-draft.ensures.apart) none

pub returns-in-Ok-clause-no_other : goal.returns-in-Ok-clause-no_other
returns-in-Ok-clause-no_other g c source tells sound =
    holds_no_other (g.F.Folder.files c.args.folder.now) (g.D.Disk.state c.sync_names.new.self) c.in_ok-copied.copied
    (returns-in-Ok-clause-backup g c source tells sound)
    (subst (λ (d : List ℕ). ¬ (Counts d)) c.in_ok-draft.ensures.named c.in_ok-draft.ensures.apart)

pub returns-in-Ok-clause-any_moment : goal.returns-in-Ok-clause-any_moment
returns-in-Ok-clause-any_moment g c source tells empty =
    settled_leave (g.F.Folder.files c.args.folder.now) (g.D.Disk.state c.sync_names.new.self)
    (returns-in-Ok-clause-backup g c source tells empty.sound).only
