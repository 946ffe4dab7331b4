use Rattle.std.proofs.Common.{◌≡◌, false, drop}
use Rattle.clap.specs.Words.{app_of}
use Rattle.clap.specs.declared.builder.command.Command.TheViews.{out-Command as fields_of}
use Rattle.command_line.specs.Tables.{with_rules}
use Rattle.command_line.proofs.line.with_options.Given as goal

abbrev pub invariant-loop-row : goal.invariant-loop-row
invariant-loop-row l =
    ((fields_of l.command).has_globals ≡ false)
    × (with_rules (app_of l.fn.command) l.rows ≡ with_rules (app_of l.command) (drop l.row-index l.rows))
