-- Tests and lists of tests, one option after the other.
use Rattle.std.proofs.Common.{◌≡◌, ◌∙◌, ℕ, ◌+◌, ◌<◌, List, [], ◌∷◌, ◌++◌, Option, Some, None, append-nil, append_assoc}
use Rattle.std.proofs.Common.{ap, drop, get_or, length, option_and_then, option_map, refl, sym}
use Rattle.std.proofs.lemmas.List.{drop_more}
use Rattle.clap.specs.Walk.{Row}
use Rattle.option_values.specs.Values.{all_given}
use Rattle.option_values.proofs.GivenLemmas.{behind}
use Rattle.condition_words.specs.Tests.{TestAsked, all_asked, asked_in, lists_in, put}
use Rattle.condition_words.specs.declared.tests_asked.ConditionOption.{ConditionOption}

-- the values of this option, and then of those behind it
pub next_option : (options : List ConditionOption) (i : ℕ) (option : ConditionOption) (rows : List Row)
    → i < length options
    → all_asked (drop i options) rows ≡ asked_in (get_or options i option) rows ++ all_asked (drop (i + 1) options) rows
next_option options i option rows less = ap (λ left. all_asked left rows) (drop_more options i option less)

-- ---- lists

-- the tests of an option before the lists of those behind it
abbrev before : Option (List TestAsked) → Option (List (List TestAsked)) → Option (List (List TestAsked))
before tests rest = option_and_then (λ ts. option_map (put ts) rest) tests

put_behind : {X : Type 0} (done : List (List X)) (tests : List X) (rest : Option (List (List X)))
    → behind done (option_map (put tests) rest) ≡ behind (done ++ put tests []) rest
put_behind done tests None = refl
put_behind done [] (Some lists) = ap (λ (d : List (List _)). Some (d ++ lists)) (sym (append-nil done))
put_behind done (x ∷ xs) (Some lists) = ap Some (sym (append_assoc done ((x ∷ xs) ∷ []) lists))

-- the lists so far, and those of the options that are left
abbrev pub ListsSoFar : List ConditionOption → List Row → List (List TestAsked) → ℕ → Type 0
ListsSoFar options rows done i = lists_in options rows ≡ behind done (lists_in (drop i options) rows)

module _ (options : List ConditionOption) (rows : List Row) (done : List (List TestAsked)) (i : ℕ)
    (so_far : ListsSoFar options rows done i) where
  at_next : (option : ConditionOption) → i < length options
      → lists_in options rows ≡ behind done
      (before (all_given (asked_in (get_or options i option) rows)) (lists_in (drop (i + 1) options) rows))
  at_next option less = so_far ∙ ap (λ left. behind done (lists_in left rows)) (drop_more options i option less)

  pub lists_more : (option : ConditionOption) (tests : List TestAsked) (more : List (List TestAsked))
      → i < length options → all_given (asked_in (get_or options i option) rows) ≡ Some tests
      → more ≡ done ++ put tests [] → ListsSoFar options rows more (i + 1)
  lists_more option tests more less given grown =
      let rest = lists_in (drop (i + 1) options) rows in
      at_next option less ∙ ap (λ (ts : Option (List TestAsked)). behind done (before ts rest)) given
      ∙ put_behind done tests rest ∙ ap (λ (d : List (List TestAsked)). behind d rest) (sym grown)
