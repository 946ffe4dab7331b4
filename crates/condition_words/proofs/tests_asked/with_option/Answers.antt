use Rattle.std.proofs.Common.{◌≡◌, ◌∙◌, ap, map, List, [], option_map, subst}
use Rattle.std.specs.Prelude.{IfOk, Option, unwrap_or}
use Rattle.std.specs.Result.{result_ok}
use Rattle.clap.specs.Walk.{Text, all_of}
use Rattle.clap.specs.Words.{found_of, rows_of}
use Rattle.option_values.specs.Values.{all_given}
use Rattle.option_values.proofs.GivenLemmas.{behind, map_now}
use Rattle.condition_words.specs.Tests.{TestAsked, test_of, tests_asked}
use Rattle.condition_words.proofs.tests_asked.with_option.Goals as goal

pub returns-in-Some : goal.returns-in-Some
returns-in-Some c =
    subst (λ (xs : List (Option TestAsked)). IfOk c.with_texts.result (λ r.
    option_map (λ v. tests_asked v.items) (result_ok r) ≡ behind (tests_asked c.args.tests.items) (all_given xs)))
    (map_now (test_of c.args.option) (λ s. s.now) c.in-Some.texts.now
    ∙ ap (λ (o : Option (List Text)). map (test_of c.args.option) (unwrap_or o []))
    (c.in-Some.ensures ∙ ap (λ id. all_of id (rows_of (found_of c.args.matches.now))) c.row_of.ensures))
    c.with_texts.ensures
