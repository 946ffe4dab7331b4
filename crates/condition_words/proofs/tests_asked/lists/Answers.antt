use Rattle.std.proofs.Common.{◌≡◌, ◌∙◌, List, [], Option, Some, ap, get_or, option_map, sym}
use Rattle.std.specs.Result.{result_ok}
use Rattle.clap.specs.Words.{found_of, rows_of}
use Rattle.option_values.specs.Values.{all_given}
use Rattle.option_values.proofs.GivenLemmas.{behind, behind_nothing}
use Rattle.condition_words.specs.Tests.{TestAsked, asked_in, lists_asked, tests_asked}
use Rattle.condition_words.proofs.TestLemmas.{lists_more}
use Rattle.condition_words.proofs.tests_asked.lists.Goals as goal

pub loop-option-preserved : goal.loop-option-preserved
loop-option-preserved c =
    let rows = rows_of (found_of c.args.matches.now) in
    let options = c.args.options.now in
    let i = c.loop-option.option-index in
    let given = all_given (asked_in (get_or options i _) rows) in
    lists_more options rows (lists_asked c.loop-option.lists.items) i c.loop-option.invariant _
    (tests_asked c.in-Ok.tests.items) (lists_asked c.in_ok-lists-in-Ok.lists.items) c.loop-option-test.true
    (behind_nothing given
    ∙ ap (λ (old : List TestAsked). behind old given) (sym (ap tests_asked c.new.ensures.items))
    ∙ sym c.in_ok-tests.ensures ∙ ap (λ r. option_map (λ v. tests_asked v.items) (result_ok r)) c.in-Ok.is)
    c.in_ok-lists-in-Ok.ensures
