use Rattle.std.proofs.Common.{List, ℕ, [], ◌∷◌, ◌++◌, ap, inl, refl, subst, sym, take, ◌∙◌}
use Rattle.std.specs.Prelude.{Contains}
use Rattle.std.proofs.lemmas.List.{take_all, take_more}
use Rattle.std.proofs.lemmas.List.Elements.{Contains-get_or}
use Rattle.store_reading.proofs.Held.{no_name}
use Rattle.store_upkeep.proofs.SameSets.{gone_more, less_then, same_set, step_all, step_less, step_lost, step_other}
use Rattle.store_upkeep.proofs.SameSets.{step_set, then_set}
use Rattle.store_upkeep.proofs.compaction.remove_joined.Goals as goal

pub segments-init : goal.segments-init
segments-init g c = record {
  told = λ t. t;
  lost = λ t. refl;
  set = λ t day text es all. same_set (g.D.Disk.state c.args.disk.now);
  all = λ t day text es all. all;
  gone = λ t name has. absurd (no_name (λ (n : List ℕ). Unit {0}) (name, has, tt));
  less = λ t name. inl refl;
  others = λ t name not. refl;
}

pub segments-preserved : goal.segments-preserved
segments-preserved g c =
    let all = c.args.segments.now in
    let first = take c.segments.segment-index all in
    let zero = g.D.Disk.state c.args.disk.now in
    let then = g.D.Disk.state c.segments.disk in
    let one = g.D.Disk.state c.remove_other.new.disk in
    let item = c.segment-item.result in
    let joined = c.args.joined.now in
    let here = subst (Contains all) (sym c.segment-item.is)
    (Contains-get_or all c.segments.segment-index item c.segments-test.true) in
    let more = take_more all c.segments.segment-index item c.segments-test.true
    ∙ ap (λ (n : List ℕ). first ++ n ∷ []) (sym c.segment-item.is) in
    record {
      told = λ t. c.segments.invariant.told (c.remove_other.ensures.told t);
      lost = λ t. step_lost then one item joined (c.remove_other.ensures.done t)
          ∙ c.segments.invariant.lost (c.remove_other.ensures.told t);
      set = λ t day text es has. let before = c.remove_other.ensures.told t in
          then_set zero then one (c.segments.invariant.set before day text es has)
          (step_set then one item joined (c.remove_other.ensures.done t) all day text es
          (c.segments.invariant.all before day text es has) here);
      all = λ t day text es has.
          step_all then one item joined (c.remove_other.ensures.done t) all day text es
          (c.segments.invariant.all (c.remove_other.ensures.told t) day text es has);
      gone = λ t name has. let before = c.remove_other.ensures.told t in
          gone_more then one first item joined (step_less then one item joined (c.remove_other.ensures.done t))
          (c.segments.invariant.gone before) (c.in_default.ensures.gone t) name
          (subst (λ (l : List (List ℕ)). Contains l name) more has);
      less = λ t. less_then zero then one (c.segments.invariant.less (c.remove_other.ensures.told t))
          (step_less then one item joined (c.remove_other.ensures.done t));
      others = λ t name not.
          step_other then one item joined (c.remove_other.ensures.done t) name
          (λ is. not (subst (Contains all) (sym is) here))
          ∙ c.segments.invariant.others (c.remove_other.ensures.told t) name not;
    }

pub returns-in-Err-clause-set : goal.returns-in-Err-clause-set
returns-in-Err-clause-set g c t day text es has =
    let all = c.args.segments.now in
    let zero = g.D.Disk.state c.args.disk.now in
    let then = g.D.Disk.state c.segments.disk in
    let one = g.D.Disk.state c.remove_other.new.disk in
    let item = c.segment-item.result in
    let joined = c.args.joined.now in
    let before = c.remove_other.ensures.told t in
    let here = subst (Contains all) (sym c.segment-item.is)
    (Contains-get_or all c.segments.segment-index item c.segments-test.true) in
    then_set zero then one (c.segments.invariant.set before day text es has)
    (step_set then one item joined (c.remove_other.ensures.done t) all day text es
    (c.segments.invariant.all before day text es has) here)

pub returns-in-Err-clause-others : goal.returns-in-Err-clause-others
returns-in-Err-clause-others g c t name not =
    let all = c.args.segments.now in
    let then = g.D.Disk.state c.segments.disk in
    let one = g.D.Disk.state c.remove_other.new.disk in
    let item = c.segment-item.result in
    let here = subst (Contains all) (sym c.segment-item.is)
    (Contains-get_or all c.segments.segment-index item c.segments-test.true) in
    step_other then one item c.args.joined.now (c.remove_other.ensures.done t) name
    (λ is. not (subst (Contains all) (sym is) here))
    ∙ c.segments.invariant.others (c.remove_other.ensures.told t) name not

pub returns-in-Err-clause-less : goal.returns-in-Err-clause-less
returns-in-Err-clause-less g c t =
    let zero = g.D.Disk.state c.args.disk.now in
    let then = g.D.Disk.state c.segments.disk in
    let one = g.D.Disk.state c.remove_other.new.disk in
    less_then zero then one (c.segments.invariant.less (c.remove_other.ensures.told t))
    (step_less then one c.segment-item.result c.args.joined.now (c.remove_other.ensures.done t))

pub returns-in-Err-clause-lost : goal.returns-in-Err-clause-lost
returns-in-Err-clause-lost g c t =
    let then = g.D.Disk.state c.segments.disk in
    let one = g.D.Disk.state c.remove_other.new.disk in
    step_lost then one c.segment-item.result c.args.joined.now (c.remove_other.ensures.done t)
    ∙ c.segments.invariant.lost (c.remove_other.ensures.told t)

pub returns-clause-gone : goal.returns-clause-gone
returns-clause-gone g c t name has =
    c.segments.invariant.gone t name
    (subst (λ (l : List (List ℕ)). Contains l name)
    (sym (take_all c.segments.segment-index c.args.segments.now c.segments-test.false)) has)
