use Rattle.std.proofs.Common.{◌∙◌, ◌+◌, List, Option, Vec, Global, ap, arith, drop, get_or, map, sym}
use Rattle.std.specs.Result.{result_ok}
use Rattle.clap.specs.Words.{found_of, rows_of}
use Rattle.server_words.specs.Listeners.{ListenerAsked, all_asked, asked_in, listener_asked}
use Rattle.option_values.specs.Values.{all_given}
use Rattle.server_words.specs.declared.listeners.ListenerWords.{ListenerWords}
use Rattle.option_values.proofs.GivenLemmas.{behind, next_found, next_refused}
use Rattle.server_words.proofs.ListenerLemmas.{next_option, none_left}
use Rattle.server_words.proofs.listeners.with_options.Goals as goal

-- what these listeners are asked by
abbrev asked : Vec ListenerWords Global → List ListenerAsked
asked v = map listener_asked v.items

pub returns-in-Err : goal.returns-in-Err
returns-in-Err c =
    let rows = rows_of (found_of c.args.matches.now) in
    let options = c.args.options.now in
    let i = c.loop-option.option-index in
    let found = asked c.loop-option.listeners in
    sym (c.loop-option.invariant
    ∙ ap (λ (left : List (Option ListenerAsked)). behind found (all_given left))
    (next_option options i _ rows c.loop-option-test.true)
    ∙ next_refused asked found (asked_in (get_or options i _) rows) (result_ok c.in_ok-more.field-0)
    c.in_ok-more.ensures (all_asked (drop (i + 1) options) rows) (ap result_ok c.in-Err.is))

pub loop-option-preserved : goal.loop-option-preserved
loop-option-preserved c =
    let rows = rows_of (found_of c.args.matches.now) in
    let options = c.args.options.now in
    let i = c.loop-option.option-index in
    let found = asked c.loop-option.listeners in
    c.loop-option.invariant
    ∙ ap (λ (left : List (Option ListenerAsked)). behind found (all_given left))
    (next_option options i _ rows c.loop-option-test.true)
    ∙ next_found asked found (asked_in (get_or options i _) rows) (result_ok c.in_ok-more.field-0)
    c.in_ok-more.ensures (all_asked (drop (i + 1) options) rows) c.in-Ok.more (ap result_ok c.in-Ok.is)

pub returns : goal.returns
returns c =
    sym (c.loop-option.invariant
    ∙ none_left c.args.options.now c.loop-option.option-index (rows_of (found_of c.args.matches.now))
    (asked c.loop-option.listeners) (omega (arith, c.loop-option-test.false)))
