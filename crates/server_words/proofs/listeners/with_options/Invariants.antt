use Rattle.std.proofs.Common.{◌≡◌, drop, map}
use Rattle.clap.specs.Words.{found_of, rows_of}
use Rattle.option_values.proofs.GivenLemmas.{behind}
use Rattle.server_words.specs.Listeners.{all_asked, listener_asked}
use Rattle.option_values.specs.Values.{all_given}
use Rattle.server_words.proofs.listeners.with_options.Given as goal

-- the listeners so far, and those of the options that are left
abbrev pub invariant-loop-option : goal.invariant-loop-option
invariant-loop-option l =
    let rows = rows_of (found_of l.matches) in
    behind (map listener_asked l.fn.listeners.items) (all_given (all_asked l.options rows))
    ≡ behind (map listener_asked l.listeners.items) (all_given (all_asked (drop l.option-index l.options) rows))
