use Rattle.std.proofs.Common.{◌≤◌, ◌∙◌, [], ◌∷◌, Some, ap, length, map, rules, sym}
use Rattle.std.proofs.lemmas.List.{take_all}
use Rattle.option_values.specs.Values.{all_given}
use Rattle.option_values.proofs.GivenLemmas.{behind, behind_nothing, given_more, given_none}
use Rattle.command_line.specs.Counts.{key_of}
use Rattle.command_line.proofs.count_words.keys_named.Goals as goal

pub returns-in_default : goal.returns-in_default
returns-in_default c =
    sym (given_none (λ s. key_of s.now) c.args.names.now c.loop-name.name-index _ c.loop-name-test.true
    (sym c.in_default.is ∙ c.key.ensures))

pub loop-name-preserved : goal.loop-name-preserved
loop-name-preserved c =
    given_more (λ s. key_of s.now) c.args.names.now c.loop-name.name-index _ c.in-Some.key [] c.loop-name.keys.items
    c.loop-name-test.true (sym c.in-Some.is ∙ c.key.ensures) c.loop-name.invariant
    ∙ ap Some (sym c.in_ok-push.ensures.items)

pub returns : goal.returns
returns c =
    let names = c.args.names.now in
    let done : length names ≤ c.loop-name.name-index = search rules in
    let all = all_given (map (λ s. key_of s.now) names) in
    sym (behind_nothing all
    ∙ ap (λ few. behind [] (all_given (map (λ s. key_of s.now) few))) (sym (take_all c.loop-name.name-index names done))
    ∙ c.loop-name.invariant)
