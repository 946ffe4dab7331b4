use Rattle.std.proofs.Common.{◌∙◌, [], ◌∷◌, Some, ap, map, option_map, sym}
use Rattle.std.proofs.lemmas.List.{map-append}
use Rattle.server_words.specs.Listeners.{listener_asked, listener_of}
use Rattle.option_values.proofs.GivenLemmas.{behind, given_more, given_none}
use Rattle.server_words.proofs.listeners.with_texts.Goals as goal

pub returns-in_default : goal.returns-in_default
returns-in_default c =
    ap (behind (map listener_asked c.args.listeners.items))
    (sym (given_none (λ s. listener_of c.args.option s.now) c.args.texts.now c.loop-text.text-index _ c.loop-text-test.true
    (sym (ap (option_map listener_asked) c.in_default.is) ∙ c.listener.ensures)))

pub loop-text-preserved : goal.loop-text-preserved
loop-text-preserved c =
    given_more (λ s. listener_of c.args.option s.now) c.args.texts.now c.loop-text.text-index _
    (listener_asked c.in-Some.listener) (map listener_asked c.args.listeners.items)
    (map listener_asked c.loop-text.listeners.items) c.loop-text-test.true
    (sym (ap (option_map listener_asked) c.in-Some.is) ∙ c.listener.ensures) c.loop-text.invariant
    ∙ ap Some (sym (ap (map listener_asked) c.in_ok-push.ensures.items
    ∙ map-append listener_asked c.loop-text.listeners.items (c.in-Some.listener ∷ [])))
