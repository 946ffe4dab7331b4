use Rattle.std.proofs.Common.{inl, subst, sym, List}
use Rattle.disk.specs.States.{Files}
use Rattle.store_upkeep.specs.declared.damage.DamagedFile.{DamagedFile}
use Rattle.read_engine.specs.Partial.{AreDamagedIn}
use Rattle.read_engine.proofs.SameFiles.{leaves_out_same}
use Rattle.read_engine.proofs.partial.read_partial.Goals as goal

pub returns-in-Ok-clause-ran : goal.returns-in-Ok-clause-ran
returns-in-Ok-clause-ran g c =
    let now = g.F.Folder.files c.args.folder.now in
    let before = g.F.Folder.files c.damaged_and_names.new.folder in
    let told = c.read_others.ensures.told in
    inl (leaves_out_same c.args.options.now _ _ c.args.range before now _ _ _ _ _
    (λ t. c.damaged_and_names.ensures.same (told t))
    (c.read_others.ensures.left_out (λ t.
    subst (λ (ds : List DamagedFile). AreDamagedIn before c.args.range ds) (sym c.deref.ensures.value)
    (subst (λ (files : Files). AreDamagedIn files c.args.range c.in-Ok.damaged.items)
    (sym (c.damaged_and_names.ensures.same (told t))) (c.in-Ok.ensures.found (told t))))))
