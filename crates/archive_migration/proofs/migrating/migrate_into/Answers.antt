use Rattle.std.proofs.Common.{sym, ◌∙◌, arith}
use Rattle.std.proofs.lemmas.Grind.{common_steps}
use Rattle.archive_migration.proofs.Steps.{fault_of_text, nothing_yet, one_more_entry, when_ok}
use Rattle.archive_migration.proofs.migrating.migrate_into.Goals as goal

pub loop-rest-init : goal.loop-rest-init
loop-rest-init g c = nothing_yet _ _

pub returns-in-Err-clause-err : goal.returns-in-Err-clause-err
returns-in-Err-clause-err g c =
    fault_of_text c.args.text.now c.loop-rest.rest.now c.loop-rest.last _ _ c.in-Err.fault c.loop-rest.invariant
    (grind (arith, common_steps)) c.in-Err.ensures.fault

pub loop-rest-preserved : goal.loop-rest-preserved
loop-rest-preserved g c =
    one_more_entry c.args.text.now c.loop-rest.rest.now c.in-Ok.read.1.now c.loop-rest.last c.in-Ok.read.0.entry _ _ _
    c.loop-rest.invariant c.in-Ok.ensures.entry c.in-Ok.ensures.above
    (when_ok c.add_old.result _ (sym c.is_err.ensures.value ∙ c.if-is_err.false) c.add_old.ensures)
