-- Listeners, one option after the other.
use Rattle.std.proofs.Common.{◌≡◌, ◌∙◌, ℕ, ◌+◌, ◌<◌, ◌≤◌, List, [], ◌∷◌, ◌++◌, Some, append-nil, append_assoc}
use Rattle.std.proofs.Common.{ap, get_or, length, sym, drop}
use Rattle.std.proofs.lemmas.List.{drop_all, drop_more}
use Rattle.clap.specs.Walk.{Row}
use Rattle.option_values.specs.Values.{all_given}
use Rattle.option_values.proofs.GivenLemmas.{behind, behind_nothing}
use Rattle.server_words.specs.Listeners.{ListenerAsked, all_asked, asked_in, listeners_in}
use Rattle.server_words.specs.declared.listeners.ListenerOption.{ListenerOption}
use Rattle.server_words.specs.declared.listeners.ListenerOption.TheVariants.{Udp, Counted, Lf, Unix, Inherited}

-- the values of this option, and then of those behind it
pub next_option : (options : List ListenerOption) (i : ℕ) (option : ListenerOption) (rows : List Row) → i < length options
    → all_asked (drop i options) rows ≡ asked_in (get_or options i option) rows ++ all_asked (drop (i + 1) options) rows
next_option options i option rows less = ap (λ left. all_asked left rows) (drop_more options i option less)

-- the listeners, where no option is left
pub none_left : (options : List ListenerOption) (i : ℕ) (rows : List Row) (found : List ListenerAsked) → length options ≤ i
    → behind found (all_given (all_asked (drop i options) rows)) ≡ Some found
none_left options i rows found all =
    ap (λ left. behind found (all_given (all_asked left rows))) (drop_all i options all) ∙ ap Some (append-nil found)

-- all five of them
pub five_options : (rows : List Row) → behind [] (all_given (all_asked (Udp ∷ Counted ∷ Lf ∷ Unix ∷ Inherited ∷ []) rows))
    ≡ listeners_in rows
five_options rows =
    sym (behind_nothing (all_given (all_asked (Udp ∷ Counted ∷ Lf ∷ Unix ∷ Inherited ∷ []) rows)))
    ∙ ap all_given (five (asked_in Udp rows) (asked_in Counted rows) (asked_in Lf rows) (asked_in Unix rows)
    (asked_in Inherited rows))
  where
    five : {X : Type 0} (a b c d e : List X) → a ++ (b ++ (c ++ (d ++ (e ++ [])))) ≡ a ++ b ++ c ++ d ++ e
    five a b c d e = simp (append_assoc, append-nil)
