use Rattle.std.proofs.Common.{List, ℕ, subst}
use Rattle.std.specs.Prelude.{OnOk}
use Rattle.disk.specs.States.{Files}
use Rattle.store_upkeep.specs.Damages.{IsWholeOrListed}
use Rattle.read_engine.proofs.damaged.verify_at.Goals as goal

pub returns-clause-listed : goal.returns-clause-listed
returns-clause-listed g c =
    rw c.into_folder.ensures.folder (subst (λ (files : Files). OnOk c.verify-verified.result
    (g.F.Folder.tells c.verify-verified.new.folder.folder.now → (name : List ℕ)
    → IsWholeOrListed files c.verify-verified.new.damaged.items name)) c.new-others.ensures.files
    c.verify-verified.ensures.listed)
