-- The conditions that the values of options ask for.
use Rattle.std.specs.Prelude.{ℤ, List, [], ◌∷◌, Bool, true, false, Option, Some, None, codes, option_and_then}
use Rattle.std.specs.Prelude.{option_map}
use Rattle.clap.specs.Walk.{Row, first_of}
use Rattle.archive_sets.specs.declared.conditions.Conditions.{Conditions}
use Rattle.archive_sets.specs.declared.conditions.Times.{Times}
use Rattle.archive_sets.specs.declared.conditions.Times.TheVariants.{Range, Undated}
use Rattle.option_values.specs.Times.{asked_time}
use Rattle.option_values.specs.Values.{all_given, is_given_in, optional}
use Rattle.condition_words.specs.Tests.{TestAsked, all_asked, lists_asked, lists_in, tests_asked}
use Rattle.condition_words.specs.declared.tests_asked.ConditionOption.{ConditionOption}
use Rattle.condition_words.specs.declared.tests_asked.ConditionOption.TheVariants as option

-- conditions, their words by their texts
pub record ConditionsAsked : Type 0 where
  pub times : Times
  pub any : List (List TestAsked)
  pub none : List TestAsked

-- conditions, without where their words lie in memory
abbrev pub conditions_asked : Conditions → ConditionsAsked
conditions_asked c = record {
  times = c.times;
  any = lists_asked c.any.items;
  none = tests_asked c.none.items;
}

-- the times by the bounds of a range, and by whether `--undated` and `--only-undated` were given
abbrev pub times_by : Option ℤ → Option ℤ → Bool → Bool → Option Times
times_by None None undated true = Some Undated
times_by (Some from) to undated true = None
times_by None (Some to) undated true = None
times_by from to undated false = Some (Range (record { from = from; to = to; undated = undated }))

-- the values of the options of times
abbrev pub times_in : List Row → Option Times
times_in rows =
    option_and_then (λ from. option_and_then (λ to.
    times_by from to (is_given_in (codes "undated") rows) (is_given_in (codes "only-undated") rows))
    (optional asked_time (first_of (codes "to") rows))) (optional asked_time (first_of (codes "from") rows))

-- the options of which any value is met, each of them
abbrev pub any_options : List ConditionOption
any_options =
    option.Severity ∷ option.Facility ∷ option.Host ∷ option.App ∷ option.Proc ∷ option.MsgId ∷ option.Id
    ∷ option.Message ∷ option.HostLike ∷ option.AppLike ∷ []

-- those of which no value is met
abbrev pub none_options : List ConditionOption
none_options = option.NotHost ∷ option.NotApp ∷ option.NotMessage ∷ []

abbrev pub any_in : List Row → Option (List (List TestAsked))
any_in rows = lists_in any_options rows

abbrev pub none_in : List Row → Option (List TestAsked)
none_in rows = all_given (all_asked none_options rows)

-- the values of the options of conditions, where none is refused
abbrev pub conditions_in : List Row → Option ConditionsAsked
conditions_in rows =
    option_and_then (λ times. option_and_then (λ any. option_map (λ none. record {
      times = times;
      any = any;
      none = none;
    }) (none_in rows)) (any_in rows)) (times_in rows)
