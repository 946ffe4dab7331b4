-- What rows of the tables of commands and options make of a command line.
use Rattle.std.specs.Prelude.{List, [], ◌∷◌}
use Rattle.clap.specs.Walk.{Rule, Text}
use Rattle.clap.specs.Simple.{App, with_rule, with_subcommand}
use Rattle.command_line.specs.CommandLine.{command_app, default_rule, several_rule, flag_rule, list_rule, option_rule, required_rule}
use Rattle.option_values.specs.declared.option_row.CommandRow.{CommandRow}
use Rattle.option_values.specs.declared.option_row.Form.{Form}
use Rattle.option_values.specs.declared.option_row.Form.TheVariants as form
use Rattle.option_values.specs.declared.option_row.OptionRow.{OptionRow}

-- the option that is given in this form
abbrev pub rule_by : Text → Form → Rule
rule_by name form.Positional = required_rule name
rule_by name form.Several = several_rule name
rule_by name form.Flag = flag_rule name
rule_by name form.Single = option_rule name
rule_by name form.List = list_rule name
rule_by name (form.Default value) = default_rule name value.now

-- a command with the options of these rows
abbrev pub with_rules : App → List OptionRow → App
with_rules a [] = a
with_rules a (row ∷ rows) = with_rules (with_rule a (rule_by row.name.now row.form)) rows

-- the command of a row
abbrev pub app_by : CommandRow → App
app_by row = with_rules (command_app row.name.now) row.options.now

-- a command line with the commands of these rows
abbrev pub with_apps : App → List CommandRow → App
with_apps a [] = a
with_apps a (row ∷ rows) = with_apps (with_subcommand a (app_by row).top) rows
