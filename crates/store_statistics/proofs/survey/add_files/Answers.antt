use Rattle.std.proofs.Common.{◌≡◌, ◌∷◌, ◌++◌, ◌+◌, [], List, ℕ, ap, drop, refl, subst, sym, take, ◌∙◌}
use Rattle.std.specs.Prelude.{Contains, IsSome}
use Rattle.std.proofs.lemmas.List.{take_all, take_more}
use Rattle.std.proofs.lemmas.List.Elements.{Contains-get_or}
use Rattle.disk.specs.States.{Files}
use Rattle.store_reading.specs.Causes.{IsCause}
use Rattle.store_reading.proofs.Causing.{at_err, cause_weaker}
use Rattle.store_reading.proofs.Held.{no_name}
use Rattle.store_upkeep.specs.Causes.{IsCounted, IsListedFile, check_causes}
use Rattle.store_upkeep.proofs.Verdicts.{names_more}
use Rattle.store_statistics.specs.Statistics.{AddsFile, IsToldOf, file_names}
use Rattle.store_statistics.proofs.Surveying.{listed_on, order_begun, order_more, order_next, right_begun, right_more, sorted_front}
use Rattle.store_statistics.proofs.survey.add_files.Goals as goal

pub names-init : goal.names-init
names-init g c = record {
  told = λ t. t;
  same = λ t. refl;
  order = λ empty up. order_begun c.args.survey.now c.args.names.now empty up;
  right = λ empty t. right_begun (g.F.Folder.files c.args.folder.now) c.args.survey.now empty;
  listed = λ t name has. absurd (no_name (λ (n : List ℕ). Unit {0}) (name, has, tt));
}

pub names-preserved : goal.names-preserved
names-preserved g c =
    let names = c.args.names.now in
    let i = c.names.name-index in
    let name = c.name-item.result in
    let files = g.F.Folder.files c.args.folder.now in
    let mid = c.names.survey in
    let new = c.add_file.new.survey in
    let more = take_more names i name c.names-test.true ∙ ap (λ (n : List ℕ). take i names ++ n ∷ []) (sym c.name-item.is) in
    record {
      told = λ t. c.names.invariant.told (c.add_file.ensures.told t);
      same = λ t. c.add_file.ensures.same t ∙ c.names.invariant.same (c.add_file.ensures.told t);
      order = λ empty up. order_more _ name mid new c.add_file.ensures.added (drop (i + 1) names)
          (order_next names i name (file_names mid.files.items) c.names-test.true c.name-item.is
          (c.names.invariant.order empty up));
      right = λ empty t. let before = c.add_file.ensures.told t in
          let same = c.names.invariant.same before in
          right_more files name mid new
          (subst (λ (f : Files). AddsFile (g.F.Folder.tells c.add_file.new.folder) f name mid new) same
          c.add_file.ensures.added) t (c.names.invariant.right empty before);
      listed = λ t other has. let before = c.add_file.ensures.told t in
          let same = c.names.invariant.same before in
          names_more (λ (n : List ℕ). IsCounted n → IsSome (files n) → IsToldOf new.files.items new.damaged.items n)
          (take i names) name
          (λ n there. listed_on files name mid new
          (subst (λ (f : Files). AddsFile (g.F.Folder.tells c.add_file.new.folder) f name mid new) same
          c.add_file.ensures.added) n (c.names.invariant.listed before n there))
          (subst (λ (f : Files). IsCounted name → IsSome (f name) → IsToldOf new.files.items new.damaged.items name) same
          (c.in_ok-add_file.ensures.listed t name refl)) other
          (subst (λ (l : List (List ℕ)). Contains l other) more has);
    }

pub returns-in_err-add_file-clause-order : goal.returns-in_err-add_file-clause-order
returns-in_err-add_file-clause-order g c empty up =
    let names = c.args.names.now in
    let i = c.names.name-index in
    let name = c.name-item.result in
    sorted_front (file_names c.add_file.new.survey.files.items) (drop (i + 1) names)
    (order_more _ name c.names.survey c.add_file.new.survey c.add_file.ensures.added (drop (i + 1) names)
    (order_next names i name (file_names c.names.survey.files.items) c.names-test.true c.name-item.is
    (c.names.invariant.order empty up)))

pub returns-in_err-add_file-clause-right : goal.returns-in_err-add_file-clause-right
returns-in_err-add_file-clause-right g c empty t =
    let before = c.add_file.ensures.told t in
    let same = c.names.invariant.same before in
    let name = c.name-item.result in
    right_more (g.F.Folder.files c.args.folder.now) name c.names.survey c.add_file.new.survey
    (subst (λ (f : Files). AddsFile (g.F.Folder.tells c.add_file.new.folder) f name c.names.survey
    c.add_file.new.survey) same c.add_file.ensures.added) t (c.names.invariant.right empty before)

pub returns-clause-order : goal.returns-clause-order
returns-clause-order g c empty up =
    sorted_front (file_names c.names.survey.files.items) (drop c.names.name-index c.args.names.now)
    (c.names.invariant.order empty up)

pub returns-clause-listed : goal.returns-clause-listed
returns-clause-listed g c t name has =
    c.names.invariant.listed t name
    (subst (λ (l : List (List ℕ)). Contains l name) (sym (take_all c.names.name-index c.args.names.now c.names-test.false))
    has)

pub returns-in_err-add_file-clause-cause : goal.returns-in_err-add_file-clause-cause
returns-in_err-add_file-clause-cause g c =
    let failed = g.F.Folder.has_failed c.add_file.new.folder in
    let names = c.args.names.now in
    let name = c.name-item.result in
    let listed : Contains names name = subst (Contains names) (sym c.name-item.is)
    (Contains-get_or names c.names.name-index name c.names-test.true) in
    at_err c.from_residual.result c.in_err-add_file.field-0.0 (IsCause (check_causes failed (IsListedFile names)))
    c.from_residual.ensures.1
    (cause_weaker (check_causes failed (λ (n : List ℕ). (n ≡ name) × IsCounted n))
    (check_causes failed (IsListedFile names)) (λ same. same)
    (λ n is. (subst (Contains names) (sym is.0) listed, is.1)) (λ n damage none. none) (λ none. none)
    c.in_err-add_file.field-0.0 c.in_err-add_file.ensures.cause)
