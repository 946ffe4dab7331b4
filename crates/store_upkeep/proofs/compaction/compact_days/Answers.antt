use Rattle.std.proofs.Common.{List, ℕ, [], ◌∷◌, ◌++◌, ap, refl, subst, sym, take, ◌∙◌}
use Rattle.std.specs.Prelude.{Contains}
use Rattle.std.proofs.lemmas.List.{take_all, take_more}
use Rattle.store_reading.proofs.Held.{no_name}
use Rattle.store_upkeep.specs.declared.compaction.TheConstants.{SEGMENTS_MAX}
use Rattle.store_upkeep.proofs.DaysKept.{begins, each_few, few_more, then_damaged, then_files}
use Rattle.store_upkeep.proofs.SameSets.{same_set, then_set}
use Rattle.store_upkeep.proofs.compaction.compact_days.Goals as goal

pub names-init : goal.names-init
names-init g c = record {
  told = λ t. t;
  set = λ t sound listed. same_set (g.D.Disk.state c.args.disk.now);
  others = λ t name differs not. refl;
  damaged = λ t sound listed day damaged segment is_damaged name named. refl;
  goes_on = λ t sound listed. begins SEGMENTS_MAX (g.D.Disk.state c.args.disk.now) c.args.names.now sound listed;
  few = λ t sound listed day name has. absurd (no_name (λ (n : List ℕ). Unit {0}) (name, has, tt));
}

pub names-preserved : goal.names-preserved
names-preserved g c =
    let first = take c.names.name-index c.args.each.now in
    let zero = g.D.Disk.state c.args.disk.now in
    let then = g.D.Disk.state c.names.disk in
    let one = g.D.Disk.state c.compact_day_of.new.disk in
    let more = take_more c.args.each.now c.names.name-index c.name-item.result c.names-test.true
    ∙ ap (λ (n : List ℕ). first ++ n ∷ []) (sym c.name-item.is) in
    record {
      told = λ t. c.names.invariant.told (c.compact_day_of.ensures.told t);
      set = λ t sound listed. let before = c.compact_day_of.ensures.told t in
          then_set zero then one (c.names.invariant.set before sound listed)
          (c.compact_day_of.ensures.set t (c.names.invariant.goes_on before sound listed).sound);
      others = λ t.
          then_files zero then one (c.names.invariant.others (c.compact_day_of.ensures.told t))
          (c.compact_day_of.ensures.others t);
      damaged = λ t sound listed. let before = c.compact_day_of.ensures.told t in
          then_damaged zero then one (c.names.invariant.damaged before sound listed)
          (c.compact_day_of.ensures.damaged t (c.names.invariant.goes_on before sound listed).sound);
      goes_on = λ t sound listed.
          c.in_ok-last.ensures.goes_on t
          (c.names.invariant.goes_on (c.compact_day_of.ensures.told t) sound listed);
      few = λ t sound listed day name has text segment. let before = c.compact_day_of.ensures.told t in
          let on = c.names.invariant.goes_on before sound listed in
          few_more SEGMENTS_MAX one first c.name-item.result
          (λ d n there dated of. c.in_ok-last.ensures.still t on d
          (c.names.invariant.few before sound listed d n there dated of))
          (c.in_ok-last.ensures.few t on) day name
          (subst (λ (l : List (List ℕ)). Contains l name) more has) text segment;
    }

pub returns-in_err-last-clause-set : goal.returns-in_err-last-clause-set
returns-in_err-last-clause-set g c t sound listed =
    let before = c.compact_day_of.ensures.told t in
    then_set (g.D.Disk.state c.args.disk.now) (g.D.Disk.state c.names.disk) (g.D.Disk.state c.compact_day_of.new.disk)
    (c.names.invariant.set before sound listed)
    (c.compact_day_of.ensures.set t (c.names.invariant.goes_on before sound listed).sound)

pub returns-in_err-last-clause-others : goal.returns-in_err-last-clause-others
returns-in_err-last-clause-others g c t =
    then_files (g.D.Disk.state c.args.disk.now) (g.D.Disk.state c.names.disk) (g.D.Disk.state c.compact_day_of.new.disk)
    (c.names.invariant.others (c.compact_day_of.ensures.told t)) (c.compact_day_of.ensures.others t)

pub returns-in_err-last-clause-damaged : goal.returns-in_err-last-clause-damaged
returns-in_err-last-clause-damaged g c t sound listed =
    let before = c.compact_day_of.ensures.told t in
    then_damaged (g.D.Disk.state c.args.disk.now) (g.D.Disk.state c.names.disk)
    (g.D.Disk.state c.compact_day_of.new.disk) (c.names.invariant.damaged before sound listed)
    (c.compact_day_of.ensures.damaged t (c.names.invariant.goes_on before sound listed).sound)

pub returns-clause-few : goal.returns-clause-few
returns-clause-few g c t sound listed =
    each_few SEGMENTS_MAX (g.D.Disk.state c.names.disk) c.args.names.now c.names.last
    (c.names.invariant.goes_on t sound listed)
    (λ day name has. c.names.invariant.few t sound listed day name
    (subst (λ (l : List (List ℕ)). Contains l name)
    (sym c.requires.all ∙ sym (take_all c.names.name-index c.args.each.now c.names-test.false)) has))
