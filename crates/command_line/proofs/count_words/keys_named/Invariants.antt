use Rattle.std.proofs.Common.{◌≡◌, [], Some, map, take}
use Rattle.option_values.proofs.GivenLemmas.{behind}
use Rattle.option_values.specs.Values.{all_given}
use Rattle.command_line.specs.Counts.{key_of}
use Rattle.command_line.proofs.count_words.keys_named.Given as goal

-- the keys are those of the names so far
abbrev pub invariant-loop-name : goal.invariant-loop-name
invariant-loop-name l =
    behind [] (all_given (map (λ s. key_of s.now) (take l.name-index l.names))) ≡ Some l.keys.items
