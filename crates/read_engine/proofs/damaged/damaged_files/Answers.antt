use Rattle.std.proofs.Common.{◌⊎◌, List, ℕ, subst, sym}
use Rattle.std.specs.Prelude.{Contains, IsSome}
use Rattle.disk.specs.States.{Files}
use Rattle.store_reading.specs.Causes.{IsCause}
use Rattle.store_reading.proofs.Causing.{at_err, cause_weaker}
use Rattle.store_upkeep.specs.Causes.{IsCountedFile, check_causes}
use Rattle.store_upkeep.specs.Damages.{AreAsTold, IsWholeOrListed}
use Rattle.store_upkeep.specs.declared.damage.DamagedFile.{DamagedFile}
use Rattle.read_engine.specs.LeftOut.{files_without}
use Rattle.read_engine.specs.Partial.{IsOutside, MayBeInside}
use Rattle.read_engine.proofs.DamagedFiles.{damaged_in}
use Rattle.read_engine.proofs.LeftOut.{there_of}
use Rattle.read_engine.proofs.damaged.damaged_files.Goals as goal

pub returns-clause-found : goal.returns-clause-found
returns-clause-found g c = λ t.
    let listing = c.verify_without.ensures.told t in
    let mid = g.F.Folder.files c.list.new.folder in
    let same = c.list.ensures.same listing in
    let outside = c.in_ok-outside.outside.names.items in
    let ds = c.verify_without.new.damaged.items in
    let first = subst (λ (l : List DamagedFile). AreAsTold (files_without outside mid) l)
    (sym c.new-damaged.ensures.items) tt in
    damaged_in (g.F.Folder.files c.args.folder.now) c.args.range.now c.in_ok-names.names.items outside ds
    (c.in_ok-names.ensures.names listing)
    (subst (λ (l : List (List ℕ)). (name : List ℕ) → Contains l name → IsOutside c.args.range.now name)
    (sym c.in_ok-outside.ensures) c.in_ok-outside_of.ensures.outside)
    (subst (λ (l : List (List ℕ)). (name : List ℕ) → Contains l name → Contains outside name
    ⊎ MayBeInside c.args.range.now name) c.deref.ensures.value
    (subst (λ (l : List (List ℕ)). (name : List ℕ) → Contains c.deref.result.now name → Contains l name
    ⊎ MayBeInside c.args.range.now name) (sym c.in_ok-outside.ensures) c.in_ok-outside_of.ensures.others))
    (subst (λ (files : Files). AreAsTold (files_without outside files) ds) same
    (c.verify_without.ensures.as_told t first))
    (subst (λ (files : Files). (name : List ℕ) → IsWholeOrListed (files_without outside files) ds name) same
    (c.in_ok-verify_without.ensures.listed t))

pub returns-in_err-verify_without-clause-cause : goal.returns-in_err-verify_without-clause-cause
returns-in_err-verify_without-clause-cause g c =
    let fault = c.in_err-verify_without.field-0.0 in
    let left = files_without c.in_ok-outside.outside.names.items (g.F.Folder.files c.list.new.folder) in
    let t_of = c.verify_without.ensures.told in
    at_err c.from_residual-in_err-verify_without.result fault
    (IsCause (check_causes (g.F.Folder.has_failed c.verify_without.new.folder)
    (IsCountedFile (g.F.Folder.tells c.verify_without.new.folder) (g.F.Folder.files c.args.folder.now))))
    c.from_residual-in_err-verify_without.ensures.1
    (cause_weaker
    (check_causes (g.F.Folder.has_failed c.verify_without.new.folder)
    (IsCountedFile (g.F.Folder.tells c.verify_without.new.folder) left))
    (check_causes (g.F.Folder.has_failed c.verify_without.new.folder)
    (IsCountedFile (g.F.Folder.tells c.verify_without.new.folder) (g.F.Folder.files c.args.folder.now)))
    (λ failed. failed)
    (λ name counted. record {
      counts = counted.counts;
      there = λ t. subst (λ (files : Files). IsSome (files name)) (c.list.ensures.same (t_of t))
          (there_of c.in_ok-outside.outside.names.items (g.F.Folder.files c.list.new.folder) name (counted.there t));
    })
    (λ name damage no. no) (λ no. no)
    fault c.in_err-verify_without.ensures.cause)
