use Rattle.std.proofs.Common.{◌∙◌, ℤ, Option, rules, subst, sym}
use Rattle.std.specs.Prelude.{IfSome, not}
use Rattle.std.proofs.lemmas.Bool.{false≢true}
use Rattle.archive_sets.specs.Conditions.{IsInRange}
use Rattle.store_reading.specs.Days.{HasInstant, IsFrom, IsUpTo}
use Rattle.store_reading.proofs.DayOrders.{before_out, day_meets, from_out, not_undated, not_up_to, undated_behind}
use Rattle.store_reading.proofs.DayOrders.{undated_meets, undated_out}
use Rattle.store_reading.proofs.Ranged.{clash}
use Rattle.store_reading.proofs.days.is_outside.Goals as goal
use Rattle.store_reading.proofs.days.is_outside.Goals.{in-Some+else-is_before, in_default}

pub returns-then-is_undated-clause-none : goal.returns-then-is_undated-clause-none
returns-then-is_undated-clause-none c out e of inside =
    let range = c.args.range.now in
    undated_out range.from range.to range.undated c.args.day.now e (c.is_undated.ensures.undated.0 (search rules))
    of
    (λ k. clash c.holds.result out (c.holds.ensures.1 k)) inside

pub returns-then-is_before-clause-none : goal.returns-then-is_before-clause-none
returns-then-is_before-clause-none c h e of inside =
    let range = c.args.range.now in
    before_out c.in-Some.from range.to range.undated c.args.day.now c.of.result e
    (not_undated c.is_undated.result c.args.day.now c.is_undated.ensures.undated c.if-is_undated.false) of
    c.of.ensures
    (c.is_before.ensures.0 (search rules))
    (subst (λ (o : Option ℤ). IsInRange o range.to range.undated e.instant) c.in-Some.is inside)

pub returns-in-Some-to-clause-none : goal.returns-in-Some-to-clause-none
returns-in-Some-to-clause-none c h e of inside =
    let range = c.args.range.now in
    from_out range.from c.in-Some-to.to range.undated c.args.day.now e
    (not_undated c.is_undated.result c.args.day.now c.is_undated.ensures.undated c.if-is_undated.false) of
    (c.is_from.ensures.from h)
    (subst (λ (o : Option ℤ). IsInRange range.from o range.undated e.instant) c.in-Some-to.is inside)

pub returns-then-is_undated-clause-behind : goal.returns-then-is_undated-clause-behind
returns-then-is_undated-clause-behind c =
    undated_behind c.args.range.now.to c.args.day.now (not c.holds.result)
    (c.is_undated.ensures.undated.0 (search rules))

pub returns-in-Some-to-clause-behind : goal.returns-in-Some-to-clause-behind
returns-in-Some-to-clause-behind c = rw c.in-Some-to.is c.is_from.ensures.all

pub returns-then-is_undated-clause-inside : goal.returns-then-is_undated-clause-inside
returns-then-is_undated-clause-inside c off =
    undated_meets c.args.range.now c.args.day.now c.holds.result
    c.is_undated.ensures.day (c.is_undated.ensures.undated.0 (search rules)) off
    (λ kept. c.holds.ensures.0 kept)

pub returns-in-Some-to-clause-inside : goal.returns-in-Some-to-clause-inside
returns-in-Some-to-clause-inside c off =
    let range = c.args.range.now in
    let day = c.args.day.now in
    day_meets range day c.is_undated.ensures.day (not_undated c.is_undated.result day c.is_undated.ensures.undated c.if-is_undated.false)
    (elim c.match-range.branch [
      | in-Some+else-is_before w ↦
          subst (λ (o : Option ℤ). IfSome o (λ (f : ℤ). HasInstant day → ¬ (IsUpTo f day))) (sym w.in-Some.is)
          (not_up_to w.in-Some.from day w.of.result w.of.ensures
          (λ below. false≢true (sym w.if-is_before.false ∙ w.is_before.ensures.1 below)))
      | in_default w ↦
          subst (λ (o : Option ℤ). IfSome o (λ (f : ℤ). HasInstant day → ¬ (IsUpTo f day))) (sym w.in_default.is) tt
    ])
    (subst (λ (o : Option ℤ). IfSome o (λ (t : ℤ). HasInstant day → ¬ (IsFrom t day))) (sym c.in-Some-to.is)
    (λ has from. false≢true (sym off ∙ c.is_from.ensures.all has from)))

pub returns-clause-inside : goal.returns-clause-inside
returns-clause-inside c off =
    let range = c.args.range.now in
    let day = c.args.day.now in
    day_meets range day c.is_undated.ensures.day (not_undated c.is_undated.result day c.is_undated.ensures.undated c.if-is_undated.false)
    (elim c.match-range.branch [
      | in-Some+else-is_before w ↦
          subst (λ (o : Option ℤ). IfSome o (λ (f : ℤ). HasInstant day → ¬ (IsUpTo f day))) (sym w.in-Some.is)
          (not_up_to w.in-Some.from day w.of.result w.of.ensures
          (λ below. false≢true (sym w.if-is_before.false ∙ w.is_before.ensures.1 below)))
      | in_default w ↦
          subst (λ (o : Option ℤ). IfSome o (λ (f : ℤ). HasInstant day → ¬ (IsUpTo f day))) (sym w.in_default.is) tt
    ])
    (subst (λ (o : Option ℤ). IfSome o (λ (t : ℤ). HasInstant day → ¬ (IsFrom t day))) (sym c.in_default-to.is) tt)
