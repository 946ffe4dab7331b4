use Rattle.std.proofs.Common.{◌≡◌, Some, map, take}
use Rattle.option_values.proofs.GivenLemmas.{behind}
use Rattle.server_words.specs.Listeners.{listener_asked, listener_of}
use Rattle.option_values.specs.Values.{all_given}
use Rattle.server_words.proofs.listeners.with_texts.Given as goal

-- the listeners are those of the texts so far, behind those that there were
abbrev pub invariant-loop-text : goal.invariant-loop-text
invariant-loop-text l =
    behind (map listener_asked l.fn.listeners.items)
    (all_given (map (λ s. listener_of l.option s.now) (take l.text-index l.texts)))
    ≡ Some (map listener_asked l.listeners.items)
