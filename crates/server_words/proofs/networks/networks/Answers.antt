use Rattle.std.proofs.Common.{◌≡◌, ◌∙◌, List, [], ap, map, option_map, subst}
use Rattle.std.specs.Prelude.{IfOk, Option, unwrap_or}
use Rattle.std.specs.Result.{result_ok}
use Rattle.clap.specs.Walk.{Text}
use Rattle.option_values.specs.Values.{all_given}
use Rattle.option_values.proofs.GivenLemmas.{map_now}
use Rattle.server_words.specs.Networks.{NetworkAsked, network_asked, network_in}
use Rattle.server_words.proofs.networks.networks.Goals as goal

pub returns-in-Some : goal.returns-in-Some
returns-in-Some c =
    subst (λ (xs : List (Option NetworkAsked)). IfOk c.networks_of.result (λ r.
    option_map (λ v. map network_asked v.items) (result_ok r) ≡ all_given xs))
    (map_now network_in (λ s. s.now) c.in-Some.texts.now
    ∙ ap (λ (o : Option (List Text)). map network_in (unwrap_or o [])) c.in-Some.ensures)
    c.networks_of.ensures
