use Rattle.std.proofs.Common.{◌∙◌, [], ◌∷◌, Some, ap, map, option_map, sym}
use Rattle.std.proofs.lemmas.List.{map-append}
use Rattle.std.specs.Result.{result_ok}
use Rattle.server_words.specs.Networks.{network_asked, network_in}
use Rattle.option_values.proofs.GivenLemmas.{behind_nothing, given_more, given_none}
use Rattle.server_words.proofs.networks.networks_of.Goals as goal

pub returns-in-Err : goal.returns-in-Err
returns-in-Err c =
    sym (given_none (λ s. network_in s.now) c.args.texts.now c.loop-text.text-index _ c.loop-text-test.true
    (sym (ap (λ r. option_map network_asked (result_ok r)) c.in-Err.is) ∙ c.network.ensures))

pub loop-text-preserved : goal.loop-text-preserved
loop-text-preserved c =
    let texts = c.args.texts.now in
    let i = c.loop-text.text-index in
    behind_nothing _
    ∙ given_more (λ s. network_in s.now) texts i _ (network_asked c.in-Ok.network) []
    (map network_asked c.loop-text.networks.items) c.loop-text-test.true
    (sym (ap (λ r. option_map network_asked (result_ok r)) c.in-Ok.is) ∙ c.network.ensures)
    (sym (behind_nothing _) ∙ c.loop-text.invariant)
    ∙ ap Some (sym (ap (map network_asked) c.in_ok-push-in-Ok.ensures.items
    ∙ map-append network_asked c.loop-text.networks.items (c.in-Ok.network ∷ [])))
