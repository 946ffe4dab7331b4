use Rattle.std.proofs.Common.{◌≡◌, ◌∙◌, ap, map, List, option_map, rules, subst}
use Rattle.std.specs.Prelude.{IfOk, Option}
use Rattle.option_values.specs.Values.{all_given}
use Rattle.option_values.proofs.GivenLemmas.{map_now}
use Rattle.archive_counts.specs.declared.key.CountKey.{CountKey}
use Rattle.command_line.specs.Counts.{key_of}
use Rattle.command_line.proofs.count_words.keys_of.Goals as goal

pub returns : goal.returns
returns c =
    let same : c.deref.result.now ≡ c.in_ok-names.names.items = search rules in
    subst (λ (xs : List (Option CountKey)). IfOk c.keys_named.result (λ r. option_map (λ v. v.items) r ≡ all_given xs))
    (map_now key_of (λ s. s.now) c.deref.result.now
    ∙ ap (map key_of) (ap (map (λ s. s.now)) same ∙ c.in_ok-names.ensures))
    c.keys_named.ensures
