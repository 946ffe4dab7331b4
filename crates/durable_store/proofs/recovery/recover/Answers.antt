use Rattle.std.proofs.Common.{◌+◌, ◌<◌, ◌^◌, List, ℕ, [], arith, take, sym, subst, ◌∙◌, rules}
use Rattle.std.specs.Prelude.{Contains, slice_index}
use Rattle.std.proofs.lemmas.Grind.{common_steps}
use Rattle.std.specs.List.Sorted.{IsStrictlyIncreasing}
use Rattle.std.proofs.lemmas.List.{take_all, take_more}
use Rattle.std.proofs.lemmas.List.Elements.{Contains-push}
use Rattle.archive_pages.specs.Paged.{entries_in}
use Rattle.record_store.specs.Causes.{listing_causes, opening_causes}
use Rattle.record_store.specs.Shown.{AreShown}
use Rattle.record_store.proofs.Causing.{cause_weaker}
use Rattle.record_store.proofs.Compared.{same_then}
use Rattle.record_store.proofs.Numbers.{increasing_take, take_part}
use Rattle.durable_store.specs.Causes.{IsOpeningCause}
use Rattle.durable_store.specs.declared.fault.OpenFault.TheVariants.{Store}
use Rattle.durable_store.proofs.Journals.{ReadSo, all_recovered, all_tails, one_is_shown, read_more, read_none}
use Rattle.durable_store.proofs.Journals.{reading_fails, unchanged_journal}
use Rattle.durable_store.proofs.Readable.{at_err}
use Rattle.durable_store.proofs.recovery.recover.Goals as goal

pub loop-number-init : goal.loop-number-init
loop-number-init g c = record {
  told = λ tells. c.journals.ensures.told tells;
  same = λ tells. c.journals.ensures.same tells;
  shown = λ tells sound. subst (AreShown (g.D.Disk.state c.args.disk.now) 18446744073709551615)
      (sym c.deref-number-items.ensures.value) (c.in_ok-numbers.ensures.shown tells sound);
  read = λ tells sound. subst (λ l. ReadSo (g.D.Disk.state c.args.disk.now) [] (entries_in c.new-set.result) l)
      (sym c.new-tails.ensures.items)
      (read_none (g.D.Disk.state c.args.disk.now) (entries_in c.new-set.result) c.new-set.ensures);
}

pub loop-number-preserved : goal.loop-number-preserved
loop-number-preserved g c =
    let zero = g.D.Disk.state c.args.disk.now in
    let one = g.D.Disk.state c.loop-number.disk in
    let numbers = c.deref-number-items.result.now in
    let index = c.loop-number.number-index in
    let first = take index numbers in
    let number = slice_index numbers index in
    let small : number < 2 ^ 64 = first_of (omega arith, search rules, grind (arith, common_steps)) in
    let more = take_more numbers index 0 c.loop-number-test.true in
    record {
      told = λ tells. c.loop-number.invariant.told (c.add_journal.ensures.told tells);
      same = λ tells.
          let told = c.add_journal.ensures.told tells in
          same_then zero one (g.D.Disk.state c.add_journal.new.disk) (c.loop-number.invariant.same told)
          (c.add_journal.ensures.same tells);
      shown = λ tells. c.loop-number.invariant.shown (c.add_journal.ensures.told tells);
      read = λ tells sound.
          let told = c.add_journal.ensures.told tells in
          let same = c.loop-number.invariant.same told in
          let are = c.loop-number.invariant.shown told sound in
          let there = one_is_shown zero 18446744073709551615 numbers number are
          (take_part (index + 1) numbers number
          (subst (λ (l : List ℕ). Contains l number) (sym more) (Contains-push first number))) in
          subst (λ (l : List ℕ). ReadSo zero l (entries_in c.add_journal.new.set) c.add_journal.new.tails.items) (sym more)
          (read_more zero first (entries_in c.loop-number.set) (entries_in c.add_journal.new.set)
          c.loop-number.tails.items number there.0 small (c.loop-number.invariant.read told sound) there.1
          (subst IsStrictlyIncreasing more (increasing_take (index + 1) numbers are.ascend))
          c.add_journal.new.tails.items
          (c.in_ok-add_journal.ensures.adds tells (same.lost ∙ sound) there.0
          (unchanged_journal zero one number same ∙ there.1)));
    }

pub returns-clause-recovered : goal.returns-clause-recovered
returns-clause-recovered g c tells sound =
    let numbers = c.deref-number-items.result.now in
    all_recovered (g.D.Disk.state c.args.disk.now) 18446744073709551615 numbers (entries_in c.loop-number.set)
    c.loop-number.tails.items (omega arith) (c.loop-number.invariant.shown tells sound)
    (subst (λ (l : List ℕ). ReadSo (g.D.Disk.state c.args.disk.now) l (entries_in c.loop-number.set)
    c.loop-number.tails.items) (take_all c.loop-number.number-index numbers c.loop-number-test.false)
    (c.loop-number.invariant.read tells sound))

pub returns-clause-tails : goal.returns-clause-tails
returns-clause-tails g c tells sound =
    let numbers = c.deref-number-items.result.now in
    all_tails (g.D.Disk.state c.args.disk.now) 18446744073709551615 numbers (entries_in c.loop-number.set)
    c.loop-number.tails.items (omega arith) (c.loop-number.invariant.shown tells sound)
    (subst (λ (l : List ℕ). ReadSo (g.D.Disk.state c.args.disk.now) l (entries_in c.loop-number.set)
    c.loop-number.tails.items) (take_all c.loop-number.number-index numbers c.loop-number-test.false)
    (c.loop-number.invariant.read tells sound))

pub returns-in_err-add_journal-clause-same : goal.returns-in_err-add_journal-clause-same
returns-in_err-add_journal-clause-same g c tells =
    let told = c.add_journal.ensures.told tells in
    same_then (g.D.Disk.state c.args.disk.now) (g.D.Disk.state c.loop-number.disk) (g.D.Disk.state c.add_journal.new.disk)
    (c.loop-number.invariant.same told) (c.add_journal.ensures.same tells)

pub returns-in_err-numbers-clause-cause : goal.returns-in_err-numbers-clause-cause
returns-in_err-numbers-clause-cause g c =
    let tells_then = g.D.Disk.tells c.journals.new.disk in
    let failed_then = g.D.Disk.has_failed c.journals.new.disk in
    let zero = g.D.Disk.state c.args.disk.now in
    let fault = c.in_err-numbers.field-0.0 in
    at_err c.from_residual.result (Store fault) (IsOpeningCause tells_then failed_then zero) c.from_residual.ensures.1
    (cause_weaker (listing_causes tells_then failed_then) (opening_causes tells_then failed_then zero)
    (λ failed. failed) (λ full. full) (λ other tells sound. absurd (other tells)) (λ long. absurd long)
    (λ broken. broken) fault c.in_err-numbers.ensures.cause)

pub returns-in_err-add_journal-clause-cause : goal.returns-in_err-add_journal-clause-cause
returns-in_err-add_journal-clause-cause g c =
    let tells_then = g.D.Disk.tells c.add_journal.new.disk in
    let failed_then = g.D.Disk.has_failed c.add_journal.new.disk in
    let zero = g.D.Disk.state c.args.disk.now in
    let one = g.D.Disk.state c.loop-number.disk in
    let numbers = c.deref-number-items.result.now in
    let index = c.loop-number.number-index in
    let first = take index numbers in
    let number = slice_index numbers index in
    let small : number < 2 ^ 64 = first_of (omega arith, search rules, grind (arith, common_steps)) in
    let more = take_more numbers index 0 c.loop-number-test.true in
    let fault = c.in_err-add_journal.field-0.0 in
    at_err c.from_residual-in_err-add_journal.result fault (IsOpeningCause tells_then failed_then zero)
    c.from_residual-in_err-add_journal.ensures.1
    (reading_fails tells_then failed_then zero one number fault small
    (λ tells. c.loop-number.invariant.same (c.add_journal.ensures.told tells))
    (λ tells sound. one_is_shown zero 18446744073709551615 numbers number
    (c.loop-number.invariant.shown (c.add_journal.ensures.told tells) sound)
    (take_part (index + 1) numbers number
    (subst (λ (l : List ℕ). Contains l number) (sym more) (Contains-push first number))))
    c.in_err-add_journal.ensures.cause)
