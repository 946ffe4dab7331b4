use Rattle.std.proofs.Common.{[]}
use Rattle.driver.specs.Effects.{done_of, written}
use Rattle.archive_engine.proofs.SpilledLines.{noted_more, noted_short}
use Rattle.archive_engine.proofs.archive_spilled.take_piece.Goals as goal

pub returns-in-Ok-clause-takes : goal.returns-in-Ok-clause-takes
returns-in-Ok-clause-takes g c = λ n first kind given h.
    noted_more _ _ n _ _ (done_of c.args.effects.now) (done_of c.take-taken.new.effects) _ h
    (λ k. c.in-Ok.ensures.takes first kind given (written [] h.notes) k) c.in_ok-tell.ensures.wrote
    c.in_ok-tell.ensures.kept

pub returns-in-Err-clause-takes : goal.returns-in-Err-clause-takes
returns-in-Err-clause-takes g c = λ n first kind given h.
    noted_short c.stop_of.result first.reading kind _ _ n _ _ (done_of c.args.effects.now)
    (done_of c.take-taken.new.effects) c.stop_of.ensures h
    (c.in-Err.ensures.err first kind given (written [] h.notes) h.means) c.in_ok-tell.ensures.wrote
