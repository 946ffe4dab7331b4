use Rattle.std.proofs.Common.{◌∷◌, ◌++◌, [], List, ℕ, ap, refl, subst, sym, take, ◌∙◌}
use Rattle.std.specs.Prelude.{Contains}
use Rattle.std.proofs.lemmas.List.{take_all, take_more}
use Rattle.store_reading.proofs.Held.{no_name}
use Rattle.store_backup.proofs.Noting.{backs_none}
use Rattle.store_backup.proofs.Stepping.{mid_backing, step_backs, step_copies, step_done}
use Rattle.store_backup.proofs.files.copy_each.Goals as goal

pub names-init : goal.names-init
names-init g c = record {
  told_source = λ s. s;
  same = λ s. refl;
  told = λ t. t;
  backs = λ s t backing. backs_none (g.F.Folder.files c.args.folder.now) (g.D.Disk.state c.args.target.now)
      (g.D.Disk.state c.args.target.now) c.args.draft.now c.args.backup.now backing backing.sound
      (λ other apart. refl);
  done = λ s t backing all name has. absurd (no_name (λ (n : List ℕ). Unit {0}) (name, has, tt));
}

pub returns-in_err-there-clause-copies : goal.returns-in_err-there-clause-copies
returns-in_err-there-clause-copies g c source tells backing =
    let files = g.F.Folder.files c.args.folder.now in
    let mid = g.F.Folder.files c.names.folder in
    let zero = g.D.Disk.state c.args.target.now in
    let one = g.D.Disk.state c.names.target in
    let two = g.D.Disk.state c.copy_new.new.target in
    let draft = c.args.draft.now in
    let before = c.copy_new.ensures.told_source source in
    let same = c.names.invariant.same before in
    let backs = c.names.invariant.backs before (c.copy_new.ensures.told tells) backing in
    step_copies files mid same zero one two draft c.args.backup.now c.names.backup c.copy_new.new.backup backs
    (c.copy_new.ensures.copies source tells
    (mid_backing files mid same zero one two draft c.args.backup.now c.names.backup c.copy_new.new.backup backs))

pub names-preserved : goal.names-preserved
names-preserved g c =
    let files = g.F.Folder.files c.args.folder.now in
    let mid = g.F.Folder.files c.names.folder in
    let zero = g.D.Disk.state c.args.target.now in
    let one = g.D.Disk.state c.names.target in
    let two = g.D.Disk.state c.copy_new.new.target in
    let draft = c.args.draft.now in
    let inv = c.names.invariant in
    let first = take c.names.name-index c.args.names.now in
    let more = take_more c.args.names.now c.names.name-index c.name-item.result c.names-test.true
    ∙ ap (λ (n : List ℕ). first ++ n ∷ []) (sym c.name-item.is) in
    record {
      told_source = λ s. inv.told_source (c.copy_new.ensures.told_source s);
      same = λ s. c.copy_new.ensures.same s ∙ inv.same (c.copy_new.ensures.told_source s);
      told = λ t. inv.told (c.copy_new.ensures.told t);
      backs = λ s t backing. let before = c.copy_new.ensures.told_source s in
          let same = inv.same before in
          let backs = inv.backs before (c.copy_new.ensures.told t) backing in
          step_backs files mid same zero one two draft c.args.backup.now c.names.backup c.copy_new.new.backup backs
          (c.in_ok-there.ensures.backs s t
          (mid_backing files mid same zero one two draft c.args.backup.now c.names.backup c.copy_new.new.backup backs));
      done = λ s t backing all name has. let before = c.copy_new.ensures.told_source s in
          let told = c.copy_new.ensures.told t in
          let same = inv.same before in
          let backs = inv.backs before told backing in
          let held = mid_backing files mid same zero one two draft c.args.backup.now c.names.backup
          c.copy_new.new.backup backs in
          step_done files mid same zero one two draft c.args.backup.now c.names.backup c.copy_new.new.backup backs
          (c.in_ok-there.ensures.backs s t held) c.args.kind first c.name-item.result
          (inv.done before told backing (c.both-all.ensures.one all))
          (c.in_ok-there.ensures.done s t held (c.both-all.ensures.other all)) name
          (subst (λ (l : List (List ℕ)). Contains l name) more has);
    }

pub returns-clause-done : goal.returns-clause-done
returns-clause-done g c source tells backing all name has =
    c.names.invariant.done source tells backing all name
    (subst (λ (l : List (List ℕ)). Contains l name) (sym (take_all c.names.name-index c.args.names.now c.names-test.false))
    has)
