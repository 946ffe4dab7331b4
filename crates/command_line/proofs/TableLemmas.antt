-- Rows one after the other.
use Rattle.std.proofs.Common.{◌≡◌, ℕ, ◌+◌, ◌<◌, List, ap, drop, get_or, length}
use Rattle.std.proofs.lemmas.List.{drop_more}
use Rattle.clap.specs.Simple.{App, with_rule, with_subcommand}
use Rattle.command_line.specs.Tables.{app_by, rule_by, with_apps, with_rules}
use Rattle.option_values.specs.declared.option_row.OptionRow.{OptionRow}
use Rattle.option_values.specs.declared.option_row.CommandRow.{CommandRow}

pub next_rule : (a : App) (rows : List OptionRow) (i : ℕ) (row : OptionRow) → i < length rows
    → with_rules a (drop i rows)
    ≡ with_rules (with_rule a (rule_by (get_or rows i row).name.now (get_or rows i row).form)) (drop (i + 1) rows)
next_rule a rows i row less = ap (with_rules a) (drop_more rows i row less)

pub next_app : (a : App) (rows : List CommandRow) (i : ℕ) (row : CommandRow) → i < length rows
    → with_apps a (drop i rows)
    ≡ with_apps (with_subcommand a (app_by (get_or rows i row)).top) (drop (i + 1) rows)
next_app a rows i row less = ap (with_apps a) (drop_more rows i row less)
