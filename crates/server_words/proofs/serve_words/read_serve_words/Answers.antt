use Rattle.std.proofs.Common.{◌∙◌, ap, map, option_map, rules, sym}
use Rattle.std.specs.Result.{result_ok}
use Rattle.server_words.specs.Listeners.{listener_asked}
use Rattle.server_words.specs.Networks.{network_asked}
use Rattle.server_words.proofs.ServeLemmas.{all_served}
use Rattle.server_words.proofs.serve_words.read_serve_words.Goals as goal

pub returns : goal.returns
returns c =
    all_served c.in-Some.dir.now c.in-Ok.listeners.items (map network_asked c.in-Ok-2.allowed.items)
    c.in-Ok-options.options _ _ _ _ c.in-Some.ensures
    (sym (ap (λ r. option_map (λ v. map listener_asked v.items) (result_ok r)) c.in-Ok.is) ∙ c.in_ok-listeners.ensures)
    (sym (ap (λ r. option_map (λ v. map network_asked v.items) (result_ok r)) c.in-Ok-2.is) ∙ c.in_ok-allowed.ensures)
    (sym (ap result_ok c.in-Ok-options.is) ∙ c.options.ensures) (λ none. absurd (search (rules, none)))
