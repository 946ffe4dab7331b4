use Rattle.std.proofs.Common.{[]}
use Rattle.frame_engine.specs.declared.input_framing.InputFraming.TheVariants.{Stream}
use Rattle.archive_engine.proofs.SpilledEnds.{none_for_memory, none_spilled, ran_closed, ran_finished, ran_plain}
use Rattle.archive_engine.proofs.archive_spilled.archive_spilled_input.Goals as goal

pub returns-then-lacks_memory : goal.returns-then-lacks_memory
returns-then-lacks_memory g c =
    none_for_memory _ c.args.reading c.args.input_framing _ _ _ c.report.ensures.reports

pub returns-then-is_err : goal.returns-then-is_err
returns-then-is_err g c = none_spilled _ c.args.reading c.args.input_framing _ _ _ c.report-then-is_err.ensures.reports

pub returns-in_default : goal.returns-in_default
returns-in_default g c = ran_plain _ c.args.reading c.args.input_framing _ _ _ c.archive_input.ensures

pub returns-in-Ok : goal.returns-in-Ok
returns-in-Ok g c =
    rw c.in-Stream.is
    (ran_finished _ _ c.args.reading (Stream c.in-Stream.framing) _ _ _ (c.check_spill-made.ensures.same []) c.in-Ok.ensures)

pub returns-in-Err : goal.returns-in-Err
returns-in-Err g c =
    rw c.in-Stream.is
    (ran_closed c.in-Err.stop _ _ c.args.reading (Stream c.in-Stream.framing) _ _ _ _ (c.check_spill-made.ensures.same [])
    c.in-Err.ensures c.close.ensures)
