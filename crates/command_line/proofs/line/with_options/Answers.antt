use Rattle.std.proofs.Common.{◌∙◌, ap, sym, drop, ◌+◌}
use Rattle.clap.specs.Words.{app_of}
use Rattle.clap.specs.Simple.{with_rule}
use Rattle.command_line.specs.Tables.{with_rules}
use Rattle.command_line.proofs.TableLemmas.{next_rule}
use Rattle.command_line.proofs.line.with_options.Goals as goal

pub loop-row-preserved : goal.loop-row-preserved
loop-row-preserved c = (
  c.in_ok-command.ensures.local,
  c.loop-row.invariant.1
      ∙ next_rule (app_of c.loop-row.command) c.args.rows.now c.loop-row.row-index _ c.loop-row-test.true
      ∙ ap (λ a. with_rules a (drop (c.loop-row.row-index + 1) c.args.rows.now))
      (ap (with_rule (app_of c.loop-row.command)) (sym c.argument.ensures.rule) ∙ sym c.in_ok-command.ensures.app),
)
