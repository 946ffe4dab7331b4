use Rattle.std.proofs.Common.{◌∙◌, ◌+◌, List, Option, Vec, Global, ap, arith, drop, get_or, sym}
use Rattle.std.specs.Result.{result_ok}
use Rattle.clap.specs.Words.{found_of, rows_of}
use Rattle.archive_sets.specs.declared.field_test.FieldTest.{FieldTest}
use Rattle.option_values.specs.Values.{all_given}
use Rattle.option_values.proofs.GivenLemmas.{behind, next_found, next_refused}
use Rattle.condition_words.specs.Tests.{TestAsked, all_asked, asked_in, tests_asked}
use Rattle.condition_words.proofs.TestLemmas.{next_option}
use Rattle.condition_words.proofs.tests_asked.tests.Goals as goal

-- what these tests are asked by
abbrev asked : Vec FieldTest Global → List TestAsked
asked v = tests_asked v.items

pub returns-in-Err : goal.returns-in-Err
returns-in-Err c =
    let rows = rows_of (found_of c.args.matches.now) in
    let options = c.args.options.now in
    let i = c.loop-option.option-index in
    let found = asked c.loop-option.tests in
    sym (c.loop-option.invariant
    ∙ ap (λ (left : List (Option TestAsked)). behind found (all_given left))
    (next_option options i _ rows c.loop-option-test.true)
    ∙ next_refused asked found (asked_in (get_or options i _) rows) (result_ok c.in_ok-more.field-0)
    c.in_ok-more.ensures (all_asked (drop (i + 1) options) rows) (ap result_ok c.in-Err.is))

pub loop-option-preserved : goal.loop-option-preserved
loop-option-preserved c =
    let rows = rows_of (found_of c.args.matches.now) in
    let options = c.args.options.now in
    let i = c.loop-option.option-index in
    let found = asked c.loop-option.tests in
    c.loop-option.invariant
    ∙ ap (λ (left : List (Option TestAsked)). behind found (all_given left))
    (next_option options i _ rows c.loop-option-test.true)
    ∙ next_found asked found (asked_in (get_or options i _) rows) (result_ok c.in_ok-more.field-0)
    c.in_ok-more.ensures (all_asked (drop (i + 1) options) rows) c.in-Ok.more (ap result_ok c.in-Ok.is)
