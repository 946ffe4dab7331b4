use Rattle.std.proofs.Common.{◌∙◌, ap, true}
use Rattle.clap.specs.Simple.{App, app_of_fields, on_top}
use Rattle.clap.specs.declared.builder.command.Command.{Command}
use Rattle.clap.specs.declared.builder.command.Command.TheOpen.{Command-F}
use Rattle.command_line.proofs.line.empty_line.Goals as goal

abbrev top : App → App
top = on_top (λ s. record s { has_version = true; no_binary_name = true; subcommand_required = true })

abbrev nameless : Command-F Command → Command-F Command
nameless f = record f { no_binary_name = true }

abbrev needs : Command-F Command → Command-F Command
needs f = record f { subcommand_required = true }

pub returns : goal.returns
returns c = λ is.
    ap app_of_fields (c.subcommand_required.ensures
    ∙ ap needs (c.no_binary_name.ensures ∙ ap nameless c.version.ensures))
    ∙ ap top is
