use Rattle.std.proofs.Common.{◌≡◌, Some, map, take}
use Rattle.option_values.proofs.GivenLemmas.{behind}
use Rattle.option_values.specs.Values.{all_given}
use Rattle.condition_words.specs.Tests.{test_of, tests_asked}
use Rattle.condition_words.proofs.tests_asked.with_texts.Given as goal

-- the tests are those of the texts so far, behind those that there were
abbrev pub invariant-loop-text : goal.invariant-loop-text
invariant-loop-text l =
    behind (tests_asked l.fn.tests.items)
    (all_given (map (λ s. test_of l.option s.now) (take l.text-index l.texts)))
    ≡ Some (tests_asked l.tests.items)
