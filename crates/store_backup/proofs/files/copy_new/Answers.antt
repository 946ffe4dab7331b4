use Rattle.std.proofs.Common.{subst, sym}
use Rattle.std.specs.Prelude.{IsSome}
use Rattle.disk.specs.States.{State}
use Rattle.store_upkeep.specs.Compaction.{shown}
use Rattle.store_backup.specs.Backups.{BacksUp}
use Rattle.store_backup.proofs.Noting.{backs_then, kind_counts, noted_backs, noted_done, unchanged_backing}
use Rattle.store_backup.proofs.Stepping.{not_there, open_now, unchanged_backs}
use Rattle.store_backup.proofs.files.copy_new.Goals as goal

pub returns-in_err-is_there-clause-copies : goal.returns-in_err-is_there-clause-copies
returns-in_err-is_there-clause-copies g c source tells backing =
    (unchanged_backing (g.F.Folder.files c.args.folder.now) (g.D.Disk.state c.args.target.now)
    (g.D.Disk.state c.is_there.new.target) c.args.draft.now backing (c.is_there.ensures.same tells)).copies

pub returns-then-branch-clause-backs : goal.returns-then-branch-clause-backs
returns-then-branch-clause-backs g c source tells backing =
    unchanged_backs (g.F.Folder.files c.args.folder.now) (g.D.Disk.state c.args.target.now)
    (g.D.Disk.state c.is_there.new.target) c.args.draft.now c.args.backup.now backing (c.is_there.ensures.same tells)

pub returns-then-branch-clause-copies : goal.returns-then-branch-clause-copies
returns-then-branch-clause-copies g c source tells backing =
    (unchanged_backing (g.F.Folder.files c.args.folder.now) (g.D.Disk.state c.args.target.now)
    (g.D.Disk.state c.is_there.new.target) c.args.draft.now backing (c.is_there.ensures.same tells)).copies

pub returns-in_err-outcome-clause-copies : goal.returns-in_err-outcome-clause-copies
returns-in_err-outcome-clause-copies g c source tells backing =
    let zero = g.D.Disk.state c.args.target.now in
    let told = c.copy_file.ensures.told tells in
    (c.copy_file.ensures.places source tells
    (open_now (g.F.Folder.files c.args.folder.now) zero (g.D.Disk.state c.is_there.new.target) c.args.draft.now
    c.args.name.now backing (c.is_there.ensures.same told)
    (not_there c.in_ok-is_there.field-0 (IsSome (shown zero c.args.name.now)) c.if-branch.false
    (c.in_ok-is_there.ensures.there told backing.sound)))).copies

pub returns-in_default-clause-backs : goal.returns-in_default-clause-backs
returns-in_default-clause-backs g c source tells backing =
    let files = g.F.Folder.files c.args.folder.now in
    let zero = g.D.Disk.state c.args.target.now in
    let one = g.D.Disk.state c.is_there.new.target in
    let b = c.args.backup.now in
    let draft = c.args.draft.now in
    subst (λ (s : State). BacksUp files zero s draft b b)
    (sym (rw c.in_default.is at c.in_ok-outcome.ensures.untouched))
    (unchanged_backs files zero one draft b backing (c.is_there.ensures.same (c.copy_file.ensures.told tells)))

pub returns-in_default-clause-copies : goal.returns-in_default-clause-copies
returns-in_default-clause-copies g c source tells backing =
    let zero = g.D.Disk.state c.args.target.now in
    let told = c.copy_file.ensures.told tells in
    (c.copy_file.ensures.places source tells
    (open_now (g.F.Folder.files c.args.folder.now) zero (g.D.Disk.state c.is_there.new.target) c.args.draft.now
    c.args.name.now backing (c.is_there.ensures.same told)
    (not_there c.in_ok-is_there.field-0 (IsSome (shown zero c.args.name.now)) c.if-branch.false
    (c.in_ok-is_there.ensures.there told backing.sound)))).copies

pub returns-in_err-there-clause-copies : goal.returns-in_err-there-clause-copies
returns-in_err-there-clause-copies g c source tells backing =
    let zero = g.D.Disk.state c.args.target.now in
    let told = c.copy_file.ensures.told tells in
    (c.copy_file.ensures.places source tells
    (open_now (g.F.Folder.files c.args.folder.now) zero (g.D.Disk.state c.is_there.new.target) c.args.draft.now
    c.args.name.now backing (c.is_there.ensures.same told)
    (not_there c.in_ok-is_there.field-0 (IsSome (shown zero c.args.name.now)) c.if-branch.false
    (c.in_ok-is_there.ensures.there told backing.sound)))).copies

pub returns-clause-copies : goal.returns-clause-copies
returns-clause-copies g c source tells backing =
    let zero = g.D.Disk.state c.args.target.now in
    let told = c.copy_file.ensures.told tells in
    (c.copy_file.ensures.places source tells
    (open_now (g.F.Folder.files c.args.folder.now) zero (g.D.Disk.state c.is_there.new.target) c.args.draft.now
    c.args.name.now backing (c.is_there.ensures.same told)
    (not_there c.in_ok-is_there.field-0 (IsSome (shown zero c.args.name.now)) c.if-branch.false
    (c.in_ok-is_there.ensures.there told backing.sound)))).copies

pub returns-clause-done : goal.returns-clause-done
returns-clause-done g c source tells backing all kind =
    let files = g.F.Folder.files c.args.folder.now in
    let zero = g.D.Disk.state c.args.target.now in
    let one = g.D.Disk.state c.is_there.new.target in
    let draft = c.args.draft.now in
    let name = c.args.name.now in
    let told = c.copy_file.ensures.told tells in
    let opens = open_now files zero one draft name backing (c.is_there.ensures.same told)
    (not_there c.in_ok-is_there.field-0 (IsSome (shown zero name)) c.if-branch.false
    (c.in_ok-is_there.ensures.there told backing.sound)) in
    noted_done files one (g.D.Disk.state c.copy_file.new.target) draft name c.args.backup.now c.note.new.backup
    c.in_ok-there.there (kind_counts c.args.kind name kind) opens (c.copy_file.ensures.places source tells opens)
    c.in-Some.outcome ((rw c.in-Some.is at c.in_ok-outcome.ensures.becomes) source tells opens) c.in_ok-there.ensures all

pub returns-clause-backs : goal.returns-clause-backs
returns-clause-backs g c source tells backing =
    let files = g.F.Folder.files c.args.folder.now in
    let zero = g.D.Disk.state c.args.target.now in
    let one = g.D.Disk.state c.is_there.new.target in
    let two = g.D.Disk.state c.copy_file.new.target in
    let draft = c.args.draft.now in
    let name = c.args.name.now in
    let b = c.args.backup.now in
    let told = c.copy_file.ensures.told tells in
    let same = c.is_there.ensures.same told in
    let opens = open_now files zero one draft name backing same
    (not_there c.in_ok-is_there.field-0 (IsSome (shown zero name)) c.if-branch.false
    (c.in_ok-is_there.ensures.there told backing.sound)) in
    backs_then files zero one two draft b b c.note.new.backup (unchanged_backs files zero one draft b backing same)
    (noted_backs files one two draft name b c.note.new.backup c.in_ok-there.there
    (kind_counts c.args.kind name (rw c.in-Some.is at c.in_ok-outcome.ensures.some)) opens
    (c.copy_file.ensures.places source tells opens) c.in-Some.outcome
    ((rw c.in-Some.is at c.in_ok-outcome.ensures.becomes) source tells opens) c.in_ok-there.ensures)
