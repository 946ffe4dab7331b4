use Rattle.std.proofs.Common.{[]}
use Rattle.driver.specs.Effects.{done_of, written}
use Rattle.driver.specs.declared.stopped.Stopped.TheVariants.{Memory}
use Rattle.frame_engine.proofs.SessionLemmas.{part_of, part_same}
use Rattle.archive_engine.specs.Archived.{archive_handling}
use Rattle.archive_engine.specs.declared.spill_stop.SpillStop.TheVariants.{Run}
use Rattle.archive_engine.proofs.SpilledLines.{noted_more, noted_short}
use Rattle.archive_engine.proofs.archive_spilled.take_end.Goals as goal

pub returns-in-Ok : goal.returns-in-Ok
returns-in-Ok g c = λ n first kind given h.
    noted_more _ _ n _ _ (done_of c.args.effects.now) (done_of c.end-taken.new.effects) _ h
    (λ k. c.in-Ok.ensures first kind given (written [] h.notes) k) c.in_ok-tell.ensures.wrote
    c.in_ok-tell.ensures.kept

pub returns-in-Err : goal.returns-in-Err
returns-in-Err g c = λ n first kind given h.
    noted_short (Run Memory) first.reading kind given _ n _ _ (done_of c.args.effects.now)
    (done_of c.end-taken.new.effects) tt h
    (part_same (archive_handling first.reading) kind given (written [] h.notes) (done_of c.args.effects.now)
    (done_of c.end-taken.new.effects)
    (part_of (archive_handling first.reading) _ _ kind given _ _ h.means) c.in-Err.ensures) c.in_ok-tell.ensures.wrote
