use Rattle.std.proofs.Common.{◌∙◌, [], ◌∷◌, Some, ap, map, option_map, sym}
use Rattle.std.proofs.lemmas.List.{map-append}
use Rattle.option_values.proofs.GivenLemmas.{behind, given_more, given_none}
use Rattle.condition_words.specs.Tests.{test_asked, test_of, tests_asked}
use Rattle.condition_words.proofs.tests_asked.with_texts.Goals as goal

pub returns-in_default : goal.returns-in_default
returns-in_default c =
    ap (behind (tests_asked c.args.tests.items))
    (sym (given_none (λ s. test_of c.args.option s.now) c.args.texts.now c.loop-text.text-index _ c.loop-text-test.true
    (sym (ap (option_map test_asked) c.in_default.is) ∙ c.in_ok-test.ensures)))

pub loop-text-preserved : goal.loop-text-preserved
loop-text-preserved c =
    given_more (λ s. test_of c.args.option s.now) c.args.texts.now c.loop-text.text-index _
    (test_asked c.in-Some.test) (tests_asked c.args.tests.items) (tests_asked c.loop-text.tests.items)
    c.loop-text-test.true (sym (ap (option_map test_asked) c.in-Some.is) ∙ c.in_ok-test.ensures) c.loop-text.invariant
    ∙ ap Some (sym (ap tests_asked c.in_ok-push.ensures.items
    ∙ map-append test_asked c.loop-text.tests.items (c.in-Some.test ∷ [])))
