use Rattle.std.proofs.Common.{◌∙◌, ap, sym, drop, ◌+◌}
use Rattle.clap.specs.Words.{app_of}
use Rattle.clap.specs.Simple.{App, with_subcommand}
use Rattle.command_line.specs.Tables.{with_apps}
use Rattle.command_line.proofs.TableLemmas.{next_app}
use Rattle.command_line.proofs.line.with_commands.Goals as goal

pub loop-row-preserved : goal.loop-row-preserved
loop-row-preserved c =
    c.loop-row.invariant
    ∙ next_app (app_of c.loop-row.line) c.args.rows.now c.loop-row.row-index _ c.loop-row-test.true
    ∙ ap (λ a. with_apps a (drop (c.loop-row.row-index + 1) c.args.rows.now))
    (ap (λ (a : App). with_subcommand (app_of c.loop-row.line) a.top) (sym c.in_ok-command.ensures.app)
    ∙ sym c.in_ok-line.ensures)
