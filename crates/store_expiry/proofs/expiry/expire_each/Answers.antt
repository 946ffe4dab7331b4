use Rattle.std.proofs.Common.{List, ℕ, [], ◌∷◌, ◌++◌, ap, inl, refl, subst, sym, take, ◌∙◌}
use Rattle.std.specs.Prelude.{Contains}
use Rattle.std.proofs.lemmas.List.{take_all, take_more}
use Rattle.record_store.proofs.Compared.{same_state, same_then}
use Rattle.store_upkeep.specs.Compaction.{shown}
use Rattle.store_upkeep.proofs.Verdicts.{names_more}
use Rattle.std.proofs.lemmas.Result.{err_from_is_err_and}
use Rattle.store_expiry.specs.Expiry.{IsClear}
use Rattle.store_expiry.proofs.Apart.{front_there, next_apart, next_there, none_there}
use Rattle.store_expiry.proofs.Shedding.{clear_still, same_sheds, then_sheds, whole_then}
use Rattle.store_expiry.specs.Lines.{WritesAll}
use Rattle.store_expiry.specs.Surveys.{IsWholeOrUnexpired}
use Rattle.store_expiry.proofs.Telling.{all_more, clear_is_all, err_lines, part_more}
use Rattle.store_expiry.proofs.Causing.{cause_on}
use Rattle.store_expiry.proofs.expiry.expire_each.Goals as goal

pub names-init : goal.names-init
names-init g c =
    let zero = g.D.Disk.state c.args.disk.now in
    record {
      told = λ t. t;
      sound = λ t sound. sound;
      sheds = λ t sound. same_sheds c.args.expired.now zero;
      lines = λ t sound apart. clear_is_all c.args.expired.now zero zero (g.W.Output.state c.args.output.now).taken
          (Contains []) (λ period name segment. inl refl)
          (λ name has. absurd (none_there name has));
      whole = λ t sound name has. absurd (none_there name has);
      unless = λ t none. same_state zero;
      idle = λ dry. refl;
      clear = λ t sound wet name has. absurd (none_there name has);
      dry = λ t dry. same_state zero;
      failures = λ t sound. refl;
    }

pub names-preserved : goal.names-preserved
names-preserved g c =
    let x = c.args.expired.now in
    let first = take c.names.name-index c.args.names.now in
    let zero = g.D.Disk.state c.args.disk.now in
    let then = g.D.Disk.state c.names.disk in
    let one = g.D.Disk.state c.expire_file.new.disk in
    let more = take_more c.args.names.now c.names.name-index c.name-item.result c.names-test.true
    ∙ ap (λ (n : List ℕ). first ++ n ∷ []) (sym c.name-item.is) in
    record {
      told = λ t. c.names.invariant.told (c.expire_file.ensures.told t);
      sound = λ t sound.
          c.in_ok-gone.ensures.sound t (c.names.invariant.sound (c.expire_file.ensures.told t) sound);
      sheds = λ t sound. let before = c.expire_file.ensures.told t in
          then_sheds x zero then one (c.names.invariant.sheds before sound)
          (c.expire_file.ensures.sheds t (c.names.invariant.sound before sound));
      lines = λ t sound apart. let before = c.expire_file.ensures.told t in
          subst (λ (l : List (List ℕ)). WritesAll x zero one (g.W.Output.state c.args.output.now).taken
          (g.W.Output.state c.expire_file.new.output).taken (Contains l)) (sym more)
          (all_more x zero then (c.names.invariant.sheds before sound) one
          (g.W.Output.state c.args.output.now).taken (g.W.Output.state c.names.output).taken
          (g.W.Output.state c.expire_file.new.output).taken first c.name-item.result
          (c.names.invariant.lines before sound apart) (next_apart c.args.names.now _ first c.name-item.result more apart)
          (c.in_ok-gone.ensures.lines t (c.names.invariant.sound before sound)));
      clear = λ t sound wet. let before = c.expire_file.ensures.told t in
          let now = c.names.invariant.sound before sound in
          λ name has.
          names_more (IsClear x (shown one)) first c.name-item.result
          (λ n there. clear_still x then one n (c.expire_file.ensures.sheds t now)
          (c.names.invariant.clear before sound wet n there))
          (c.in_ok-gone.ensures.clear t now wet) name
          (subst (λ (l : List (List ℕ)). Contains l name) more has);
      whole = λ t sound. let before = c.expire_file.ensures.told t in
          λ name has.
          names_more (IsWholeOrUnexpired x (shown zero)) first c.name-item.result
          (λ n there. c.names.invariant.whole before sound n there)
          (whole_then x zero then c.name-item.result (c.names.invariant.sheds before sound)
          (c.in_ok-gone.ensures.whole t (c.names.invariant.sound before sound))) name
          (subst (λ (l : List (List ℕ)). Contains l name) more has);
      idle = λ dry. c.either-removed.ensures.1 (c.names.invariant.idle dry, c.in_ok-gone.ensures.idle dry);
      unless = λ t none. let both = c.either-removed.ensures.0 none in
          same_then zero then one (c.names.invariant.unless (c.expire_file.ensures.told t) both.0)
          (c.in_ok-gone.ensures.removed t both.1);
      dry = λ t dry. same_then zero then one (c.names.invariant.dry (c.expire_file.ensures.told t) dry)
          (c.expire_file.ensures.dry t dry);
      failures = λ t sound. let before = c.expire_file.ensures.told t in
          c.in_ok-gone.ensures.cause t (c.names.invariant.sound before sound)
          ∙ c.names.invariant.failures before sound;
    }

pub returns-in_err-gone-clause-sheds : goal.returns-in_err-gone-clause-sheds
returns-in_err-gone-clause-sheds g c t sound =
    let before = c.expire_file.ensures.told t in
    then_sheds c.args.expired.now (g.D.Disk.state c.args.disk.now) (g.D.Disk.state c.names.disk)
    (g.D.Disk.state c.expire_file.new.disk) (c.names.invariant.sheds before sound)
    (c.expire_file.ensures.sheds t (c.names.invariant.sound before sound))

pub returns-in_err-gone-clause-lines : goal.returns-in_err-gone-clause-lines
returns-in_err-gone-clause-lines g c t sound apart =
    let x = c.args.expired.now in
    let zero = g.D.Disk.state c.args.disk.now in
    let then = g.D.Disk.state c.names.disk in
    let one = g.D.Disk.state c.expire_file.new.disk in
    let first = (g.W.Output.state c.args.output.now).taken in
    let last = (g.W.Output.state c.expire_file.new.output).taken in
    let before = c.expire_file.ensures.told t in
    let names = take c.names.name-index c.args.names.now in
    let more = take_more c.args.names.now c.names.name-index c.name-item.result c.names-test.true
    ∙ ap (λ (n : List ℕ). names ++ n ∷ []) (sym c.name-item.is) in
    err_lines x zero one first last (Contains c.args.names.now) c.from_residual.result _
    (err_from_is_err_and c.from_residual.result c.from_residual.ensures.1).1
    (part_more x zero then (c.names.invariant.sheds before sound) one first (g.W.Output.state c.names.output).taken last
    names c.name-item.result (c.names.invariant.lines before sound apart)
    (next_apart c.args.names.now _ names c.name-item.result more apart) (Contains c.args.names.now)
    (λ name has. front_there c.args.names.now c.names.name-index name has)
    (next_there c.args.names.now _ names c.name-item.result more)
    (c.in_err-gone.ensures.lines t (c.names.invariant.sound before sound)))

pub returns-in_err-gone-clause-dry : goal.returns-in_err-gone-clause-dry
returns-in_err-gone-clause-dry g c t dry =
    same_then (g.D.Disk.state c.args.disk.now) (g.D.Disk.state c.names.disk) (g.D.Disk.state c.expire_file.new.disk)
    (c.names.invariant.dry (c.expire_file.ensures.told t) dry) (c.expire_file.ensures.dry t dry)

pub returns-clause-clear : goal.returns-clause-clear
returns-clause-clear g c t sound wet name has =
    c.names.invariant.clear t sound wet name
    (subst (λ (l : List (List ℕ)). Contains l name)
    (sym (take_all c.names.name-index c.args.names.now c.names-test.false)) has)

pub returns-clause-lines : goal.returns-clause-lines
returns-clause-lines g c t sound apart =
    subst (λ (l : List (List ℕ)). WritesAll c.args.expired.now (g.D.Disk.state c.args.disk.now)
    (g.D.Disk.state c.names.disk) (g.W.Output.state c.args.output.now).taken (g.W.Output.state c.names.output).taken
    (Contains l)) (take_all c.names.name-index c.args.names.now c.names-test.false)
    (c.names.invariant.lines t sound apart)

pub returns-clause-whole : goal.returns-clause-whole
returns-clause-whole g c t sound name has =
    c.names.invariant.whole t sound name
    (subst (λ (l : List (List ℕ)). Contains l name)
    (sym (take_all c.names.name-index c.args.names.now c.names-test.false)) has)

pub returns-in_err-gone-clause-cause : goal.returns-in_err-gone-clause-cause
returns-in_err-gone-clause-cause g c t sound =
    let before = c.expire_file.ensures.told t in
    cause_on c.args.expired.now (shown (g.D.Disk.state c.expire_file.new.disk))
    (g.W.Output.state c.args.output.now).failures (g.W.Output.state c.names.output).failures
    (g.W.Output.state c.expire_file.new.output).failures c.from_residual.result c.in_err-gone.field-0.0
    c.from_residual.ensures.1 (c.names.invariant.failures before sound)
    (c.in_err-gone.ensures.cause t (c.names.invariant.sound before sound))
