use Rattle.std.proofs.Common.{◌≡◌, Some, map, take}
use Rattle.option_values.specs.Values.{all_given}
use Rattle.server_words.specs.Networks.{network_asked, network_in}
use Rattle.server_words.proofs.networks.networks_of.Given as goal

-- the networks are those of the texts so far
abbrev pub invariant-loop-text : goal.invariant-loop-text
invariant-loop-text l =
    all_given (map (λ s. network_in s.now) (take l.text-index l.texts)) ≡ Some (map network_asked l.networks.items)
