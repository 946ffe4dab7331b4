use Rattle.std.proofs.Common.{◌∙◌, List, ap, map}
use Rattle.std.proofs.lemmas.Result.{IfOk-weaker}
use Rattle.clap.specs.Words.{found_of, rows_of}
use Rattle.server_words.specs.Listeners.{ListenerAsked, all_asked, listener_asked}
use Rattle.option_values.specs.Values.{all_given}
use Rattle.server_words.specs.declared.listeners.ListenerOption.TheVariants.{Udp, Counted, Lf, Unix, Inherited}
use Rattle.option_values.proofs.GivenLemmas.{behind}
use Rattle.server_words.proofs.ListenerLemmas.{five_options}
use Rattle.server_words.proofs.listeners.listeners.Goals as goal
use Rattle.std.proofs.Common.{[], ◌∷◌}

pub returns : goal.returns
returns c =
    let rows = rows_of (found_of c.args.matches.now) in
    IfOk-weaker c.with_options.result _ _
    (λ r is. is ∙ ap (λ (old : List ListenerAsked). behind old (all_given
    (all_asked (Udp ∷ Counted ∷ Lf ∷ Unix ∷ Inherited ∷ []) rows))) (ap (map listener_asked) c.new.ensures.items)
    ∙ five_options rows)
    c.with_options.ensures
