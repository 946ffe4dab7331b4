use Rattle.std.proofs.Common.{◌≡◌, ◌+◌, ◌<◌, ◌^◌, List, ℕ, [], ◌∷◌, ◌++◌, arith, rules, take, sym, ap, subst, ◌∙◌}
use Rattle.std.specs.Prelude.{Contains, None, slice_index}
use Rattle.std.proofs.lemmas.Grind.{common_steps}
use Rattle.std.proofs.lemmas.List.{take_all, take_more}
use Rattle.std.proofs.lemmas.List.Elements.{Contains-push}
use Rattle.std.proofs.lemmas.Result.{err_from_is_err_and}
use Rattle.std.specs.Prelude.{IfErr}
use Rattle.record_store.specs.Causes.{IsCause}
use Rattle.record_store.specs.Shown.{journal_shown}
use Rattle.record_store.specs.Turns.{removing_causes, shedding_causes}
use Rattle.record_store.proofs.Causing.{cause_weaker}
use Rattle.record_store.proofs.Numbers.{increasing_take, take_part}
use Rattle.record_store.proofs.Successions.{Shed, gone_more, shed_more, shed_none, shed_whole, there_still}
use Rattle.record_store.proofs.Successions.{whole_shed}
use Rattle.record_store.proofs.turning.remove_journals.Goals as goal

pub loop-number-init : goal.loop-number-init
loop-number-init g c = record {
  syncs = omega arith;
  told = λ tells. tells;
  shed = λ tells. shed_none (g.D.Disk.state c.args.disk.now);
  gone = λ tells n has. absurd (omega (arith, has.1));
}

pub loop-number-preserved : goal.loop-number-preserved
loop-number-preserved g c =
    let zero = g.D.Disk.state c.args.disk.now in
    let one = g.D.Disk.state c.loop-number.disk in
    let two = g.D.Disk.state c.remove_journal.new.disk in
    let numbers = c.args.numbers.now in
    let index = c.loop-number.number-index in
    let first = take index numbers in
    let number = slice_index numbers index in
    let small : number < 2 ^ 64 = first_of (omega arith, search rules, grind (arith, common_steps)) in
    let more = take_more numbers index 0 c.loop-number-test.true in
    record {
      syncs = omega (arith, c.loop-number.invariant.syncs, c.remove_journal.ensures.syncs);
      told = λ tells. c.loop-number.invariant.told (c.remove_journal.ensures.told tells);
      shed = λ tells.
          let told = c.remove_journal.ensures.told tells in
          subst (Shed zero two) (sym more)
          (shed_more zero one two first number small (c.loop-number.invariant.shed told)
          (c.remove_journal.ensures.done tells));
      gone = λ tells n has.
          let told = c.remove_journal.ensures.told tells in
          gone_more zero one two first number small (c.loop-number.invariant.shed told)
          (c.remove_journal.ensures.done tells) (c.loop-number.invariant.gone told)
          (c.in_ok-remove_journal.ensures.removed tells) n (subst (λ (l : List ℕ). Contains l n) more has);
    }

pub returns-in_err-remove_journal-clause-any_moment : goal.returns-in_err-remove_journal-clause-any_moment
returns-in_err-remove_journal-clause-any_moment g c tells =
    let zero = g.D.Disk.state c.args.disk.now in
    let one = g.D.Disk.state c.loop-number.disk in
    let two = g.D.Disk.state c.remove_journal.new.disk in
    let numbers = c.args.numbers.now in
    let index = c.loop-number.number-index in
    let first = take index numbers in
    let number = slice_index numbers index in
    let small : number < 2 ^ 64 = first_of (omega arith, search rules, grind (arith, common_steps)) in
    let more = take_more numbers index 0 c.loop-number-test.true in
    let told = c.remove_journal.ensures.told tells in
    let shed = shed_whole zero two (take (index + 1) numbers) numbers (take_part (index + 1) numbers)
    (subst (Shed zero two) (sym more)
    (shed_more zero one two first number small (c.loop-number.invariant.shed told) (c.remove_journal.ensures.done tells))) in
    shed.keeps

pub returns-in_err-remove_journal-clause-only : goal.returns-in_err-remove_journal-clause-only
returns-in_err-remove_journal-clause-only g c tells =
    let zero = g.D.Disk.state c.args.disk.now in
    let one = g.D.Disk.state c.loop-number.disk in
    let two = g.D.Disk.state c.remove_journal.new.disk in
    let numbers = c.args.numbers.now in
    let index = c.loop-number.number-index in
    let first = take index numbers in
    let number = slice_index numbers index in
    let small : number < 2 ^ 64 = first_of (omega arith, search rules, grind (arith, common_steps)) in
    let more = take_more numbers index 0 c.loop-number-test.true in
    let told = c.remove_journal.ensures.told tells in
    let shed = shed_whole zero two (take (index + 1) numbers) numbers (take_part (index + 1) numbers)
    (subst (Shed zero two) (sym more)
    (shed_more zero one two first number small (c.loop-number.invariant.shed told) (c.remove_journal.ensures.done tells))) in
    shed.only

pub returns-in_err-remove_journal-clause-lost : goal.returns-in_err-remove_journal-clause-lost
returns-in_err-remove_journal-clause-lost g c tells =
    let zero = g.D.Disk.state c.args.disk.now in
    let one = g.D.Disk.state c.loop-number.disk in
    let two = g.D.Disk.state c.remove_journal.new.disk in
    let numbers = c.args.numbers.now in
    let index = c.loop-number.number-index in
    let first = take index numbers in
    let number = slice_index numbers index in
    let small : number < 2 ^ 64 = first_of (omega arith, search rules, grind (arith, common_steps)) in
    let more = take_more numbers index 0 c.loop-number-test.true in
    let told = c.remove_journal.ensures.told tells in
    let shed = shed_whole zero two (take (index + 1) numbers) numbers (take_part (index + 1) numbers)
    (subst (Shed zero two) (sym more)
    (shed_more zero one two first number small (c.loop-number.invariant.shed told) (c.remove_journal.ensures.done tells))) in
    shed.lost

pub returns-clause-any_moment : goal.returns-clause-any_moment
returns-clause-any_moment g c tells =
    let shed = whole_shed (g.D.Disk.state c.args.disk.now) (g.D.Disk.state c.loop-number.disk) c.args.numbers.now
    c.loop-number.number-index c.loop-number-test.false (c.loop-number.invariant.shed tells) in
    shed.keeps

pub returns-clause-only : goal.returns-clause-only
returns-clause-only g c tells =
    let shed = whole_shed (g.D.Disk.state c.args.disk.now) (g.D.Disk.state c.loop-number.disk) c.args.numbers.now
    c.loop-number.number-index c.loop-number-test.false (c.loop-number.invariant.shed tells) in
    shed.only

pub returns-clause-lost : goal.returns-clause-lost
returns-clause-lost g c tells =
    let shed = c.loop-number.invariant.shed tells in
    shed.lost

pub returns-clause-gone : goal.returns-clause-gone
returns-clause-gone g c tells n has =
    c.loop-number.invariant.gone tells n
    (subst (λ (l : List ℕ). Contains l n)
    (sym (take_all c.loop-number.number-index c.args.numbers.now c.loop-number-test.false)) has)

pub returns-in_err-remove_journal-clause-cause : goal.returns-in_err-remove_journal-clause-cause
returns-in_err-remove_journal-clause-cause g c =
    let zero = g.D.Disk.state c.args.disk.now in
    let one = g.D.Disk.state c.loop-number.disk in
    let numbers = c.args.numbers.now in
    let index = c.loop-number.number-index in
    let first = take index numbers in
    let number = slice_index numbers index in
    let small : number < 2 ^ 64 = first_of (omega arith, search rules, grind (arith, common_steps)) in
    let more = take_more numbers index 0 c.loop-number-test.true in
    let tells_then = g.D.Disk.tells c.remove_journal.new.disk in
    let failed_then = g.D.Disk.has_failed c.remove_journal.new.disk in
    let fault = err_from_is_err_and c.from_residual.result c.from_residual.ensures.1 in
    let first_cause = subst (IsCause (removing_causes tells_then failed_then one number)) (sym fault.2)
    c.in_err-remove_journal.ensures.cause in
    subst (λ r. IfErr r (IsCause (shedding_causes tells_then failed_then zero numbers))) (sym fault.1)
    (cause_weaker (removing_causes tells_then failed_then one number) (shedding_causes tells_then failed_then zero numbers)
    (λ failed. failed) (λ full. full)
    (λ other tells each.
    let told = c.remove_journal.ensures.told tells in
    there_still zero one (take (index + 1) numbers) first number small (c.loop-number.invariant.shed told) more
    (increasing_take (index + 1) numbers each.ascend)
    (each.shown number (take_part (index + 1) numbers number
    (subst (λ (l : List ℕ). Contains l number) (sym more) (Contains-push first number)))) (other tells))
    (λ long. absurd long) (λ broken. absurd broken) fault.0 first_cause)
