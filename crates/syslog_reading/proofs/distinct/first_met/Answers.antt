use Rattle.std.proofs.Common.{◌≡◌, ◌∙◌, ◌++◌, ◌∷◌, [], ◌+◌, ℕ, List, ap, arith, inl, refl, rules, subst, sym}
use Rattle.std.proofs.Common.{take, take_all}
use Rattle.syslog_reading.specs.IdKeys.{RepeatFrom, offsets}
use Rattle.syslog_reading.proofs.Sorted.{UpTo, offsets_next, one_more, repeat_more, repeat_none, up_to_more}
use Rattle.syslog_reading.proofs.Sorted.{up_to_none}
use Rattle.syslog_reading.proofs.distinct.first_met.Goals as goal

pub loop-i-init : goal.loop-i-init
loop-i-init c = record {
  within = search rules;
  met = repeat_none c.args.elements.now c.args.reach;
  one = inl refl;
  most = λ _. up_to_none c.args.elements.now _;
}

pub loop-i-preserved : goal.loop-i-preserved
loop-i-preserved c =
    let os = offsets (take c.loop-i.i c.args.keys.now) in
    let next : offsets (take (c.loop-i.i + 1) c.args.keys.now) ≡ os ++ c.offset_of-offset.result ∷ [] =
    offsets_next c.args.keys.now c.loop-i.i _ c.loop-i-test.true
    ∙ ap (λ (o : ℕ). os ++ o ∷ []) (sym c.offset_of-offset.ensures.offset) in
    record {
      within = search rules;
      met = subst (RepeatFrom c.args.elements.now c.least_met-at.result) (sym next)
          (repeat_more c.args.elements.now os c.loop-i.last.now c.id_at-id.result.now c.loop-i.at c.least_met-at.result
          c.offset_of-offset.result c.id_at-id.ensures c.least_met-at.ensures.less c.least_met-at.ensures.met
          c.loop-i.invariant.most c.loop-i.invariant.met);
      one = one_more c.args.keys.now c.loop-i.at c.least_met-at.result c.offset_of-offset.result c.args.reach c.loop-i.i _
          c.loop-i-test.true c.offset_of-offset.ensures.offset c.least_met-at.ensures.one c.loop-i.invariant.one;
      most = λ some. subst (λ (u : List ℕ). UpTo c.args.elements.now u c.id_at-id.result.now) (sym next)
          (up_to_more c.args.elements.now os c.loop-i.last.now c.id_at-id.result.now c.loop-i.at c.least_met-at.result
          c.offset_of-offset.result c.id_at-id.ensures c.least_met-at.ensures.less c.least_met-at.ensures.met
          c.loop-i.invariant.most some);
    }

pub returns-clause-met : goal.returns-clause-met
returns-clause-met c = subst (λ (u : List ℕ). RepeatFrom c.args.elements.now c.loop-i.at (offsets u))
    (take_all c.loop-i.i c.args.keys.now (omega (arith, c.loop-i-test.false))) c.loop-i.invariant.met
