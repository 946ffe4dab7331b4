use Rattle.std.proofs.Common.{List, ℕ, subst, sym}
use Rattle.std.specs.Prelude.{Contains}
use Rattle.disk.specs.States.{Files}
use Rattle.store_upkeep.specs.Damages.{IsWholeOrListed}
use Rattle.store_upkeep.proofs.Verdicts.{all_names}
use Rattle.store_upkeep.proofs.verification.verify.Goals as goal

pub returns-clause-listed : goal.returns-clause-listed
returns-clause-listed g c t name =
    let before = c.verify_files.ensures.told t in
    let files = g.F.Folder.files c.args.folder.now in
    let ds = c.verify_files.new.damaged.items in
    all_names files c.in_ok-names.names.items ds (c.in_ok-names.ensures.names before)
    (λ n has. subst (λ (f : Files). IsWholeOrListed f ds n) (c.in_ok-names.ensures.same before)
    (c.in_ok-verify_files.ensures.listed t n
    (subst (λ (l : List (List ℕ)). Contains l n) (sym c.deref.ensures.value) has))) name
