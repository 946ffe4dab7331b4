use Rattle.std.proofs.Common.{◌≡◌, drop}
use Rattle.clap.specs.Words.{app_of}
use Rattle.command_line.specs.Tables.{with_apps}
use Rattle.command_line.proofs.line.with_commands.Given as goal

abbrev pub invariant-loop-row : goal.invariant-loop-row
invariant-loop-row l =
    with_apps (app_of l.fn.line) l.rows ≡ with_apps (app_of l.line) (drop l.row-index l.rows)
