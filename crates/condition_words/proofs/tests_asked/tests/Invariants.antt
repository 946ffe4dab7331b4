use Rattle.std.proofs.Common.{◌≡◌, drop}
use Rattle.clap.specs.Words.{found_of, rows_of}
use Rattle.option_values.proofs.GivenLemmas.{behind}
use Rattle.option_values.specs.Values.{all_given}
use Rattle.condition_words.specs.Tests.{all_asked, tests_asked}
use Rattle.condition_words.proofs.tests_asked.tests.Given as goal

-- the tests so far, and those of the options that are left
abbrev pub invariant-loop-option : goal.invariant-loop-option
invariant-loop-option l =
    let rows = rows_of (found_of l.matches) in
    all_given (all_asked l.options rows)
    ≡ behind (tests_asked l.tests.items) (all_given (all_asked (drop l.option-index l.options) rows))
