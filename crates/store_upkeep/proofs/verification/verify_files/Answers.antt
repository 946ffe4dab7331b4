use Rattle.std.proofs.Common.{◌≡◌, ◌∷◌, ◌++◌, [], List, ℕ, ap, refl, subst, sym, take, ◌∙◌}
use Rattle.std.specs.Prelude.{Contains}
use Rattle.std.proofs.lemmas.List.{take_all, take_more}
use Rattle.std.proofs.lemmas.List.Elements.{Contains-get_or}
use Rattle.disk.specs.States.{Files}
use Rattle.store_reading.specs.Causes.{IsCause}
use Rattle.store_reading.proofs.Causing.{at_err, cause_weaker}
use Rattle.store_reading.proofs.Held.{no_name}
use Rattle.store_upkeep.specs.Causes.{IsCounted, IsListedFile, check_causes}
use Rattle.store_upkeep.specs.Damages.{AreAsTold, AreDamaged, IsWholeOrListed}
use Rattle.store_upkeep.proofs.Verdicts.{adds_none, adds_stays, adds_then, listed_on, names_more}
use Rattle.store_upkeep.proofs.verification.verify_files.Goals as goal

pub names-init : goal.names-init
names-init g c = record {
  told = λ t. t;
  same = λ t. refl;
  damaged = λ t h. h;
  as_told = λ t h. h;
  added = adds_none c.args.damaged.now.items;
  listed = λ t name has. absurd (no_name (λ (n : List ℕ). Unit {0}) (name, has, tt));
}

pub returns-in_err-verify_file-clause-damaged : goal.returns-in_err-verify_file-clause-damaged
returns-in_err-verify_file-clause-damaged g c t h =
    let before = c.verify_file.ensures.told t in
    let same = c.names.invariant.same before in
    subst (λ (f : Files). AreDamaged f c.verify_file.new.damaged.items) same
    (c.verify_file.ensures.damaged t
    (subst (λ (f : Files). AreDamaged f c.names.damaged.items) (sym same) (c.names.invariant.damaged before h)))

pub returns-in_err-verify_file-clause-as_told : goal.returns-in_err-verify_file-clause-as_told
returns-in_err-verify_file-clause-as_told g c t h =
    let before = c.verify_file.ensures.told t in
    let same = c.names.invariant.same before in
    subst (λ (f : Files). AreAsTold f c.verify_file.new.damaged.items) same
    (c.verify_file.ensures.as_told t
    (subst (λ (f : Files). AreAsTold f c.names.damaged.items) (sym same) (c.names.invariant.as_told before h)))

pub names-preserved : goal.names-preserved
names-preserved g c =
    let first = take c.names.name-index c.args.names.now in
    let files = g.F.Folder.files c.args.folder.now in
    let mid = c.names.damaged.items in
    let new = c.verify_file.new.damaged.items in
    let more = take_more c.args.names.now c.names.name-index c.name-item.result c.names-test.true
    ∙ ap (λ (n : List ℕ). first ++ n ∷ []) (sym c.name-item.is) in
    record {
      told = λ t. c.names.invariant.told (c.verify_file.ensures.told t);
      same = λ t. c.verify_file.ensures.same t ∙ c.names.invariant.same (c.verify_file.ensures.told t);
      damaged = λ t h. let before = c.verify_file.ensures.told t in
          let same = c.names.invariant.same before in
          subst (λ (f : Files). AreDamaged f new) same
          (c.verify_file.ensures.damaged t
          (subst (λ (f : Files). AreDamaged f mid) (sym same) (c.names.invariant.damaged before h)));
      as_told = λ t h. let before = c.verify_file.ensures.told t in
          let same = c.names.invariant.same before in
          subst (λ (f : Files). AreAsTold f new) same
          (c.verify_file.ensures.as_told t
          (subst (λ (f : Files). AreAsTold f mid) (sym same) (c.names.invariant.as_told before h)));
      added = adds_then c.args.damaged.now.items mid new c.names.invariant.added c.verify_file.ensures.added;
      listed = λ t name has. let before = c.verify_file.ensures.told t in
          names_more (λ (n : List ℕ). IsWholeOrListed files new n) first c.name-item.result
          (λ n there. listed_on files mid new n (adds_stays mid new c.verify_file.ensures.added)
          (c.names.invariant.listed before n there))
          (subst (λ (f : Files). IsWholeOrListed f new c.name-item.result) (c.names.invariant.same before)
          (c.in_ok-verify_file.ensures.listed t)) name (subst (λ (l : List (List ℕ)). Contains l name) more has);
    }

pub returns-in_err-verify_file-clause-added : goal.returns-in_err-verify_file-clause-added
returns-in_err-verify_file-clause-added g c =
    adds_then c.args.damaged.now.items c.names.damaged.items c.verify_file.new.damaged.items c.names.invariant.added
    c.verify_file.ensures.added

pub returns-clause-listed : goal.returns-clause-listed
returns-clause-listed g c t name has =
    c.names.invariant.listed t name
    (subst (λ (l : List (List ℕ)). Contains l name) (sym (take_all c.names.name-index c.args.names.now c.names-test.false))
    has)

pub returns-in_err-verify_file-clause-cause : goal.returns-in_err-verify_file-clause-cause
returns-in_err-verify_file-clause-cause g c =
    let failed = g.F.Folder.has_failed c.verify_file.new.folder in
    let names = c.args.names.now in
    let name = c.name-item.result in
    let listed : Contains names name = subst (Contains names) (sym c.name-item.is)
    (Contains-get_or names c.names.name-index name c.names-test.true) in
    at_err c.from_residual.result c.in_err-verify_file.field-0.0 (IsCause (check_causes failed (IsListedFile names)))
    c.from_residual.ensures.1
    (cause_weaker (check_causes failed (λ (n : List ℕ). (n ≡ name) × IsCounted n))
    (check_causes failed (IsListedFile names)) (λ same. same)
    (λ n is. (subst (Contains names) (sym is.0) listed, is.1)) (λ n damage none. none) (λ none. none)
    c.in_err-verify_file.field-0.0 c.in_err-verify_file.ensures.cause)
