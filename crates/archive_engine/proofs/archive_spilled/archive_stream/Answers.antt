use Rattle.std.proofs.lemmas.Result.{err_from_is_err_and}
use Rattle.driver.specs.declared.stopped.Stopped.TheVariants.{Memory}
use Rattle.frame_engine.specs.declared.input_framing.InputFraming.TheVariants.{Stream}
use Rattle.archive_engine.specs.declared.spill_stop.SpillStop.TheVariants.{Run}
use Rattle.archive_engine.proofs.SpilledEnds.{finished, never_finished, pumped_at}
use Rattle.archive_engine.proofs.SpilledLines.{never_read}
use Rattle.archive_engine.proofs.archive_spilled.archive_stream.Goals as goal

pub returns-in_default : goal.returns-in_default
returns-in_default g c =
    never_finished (Run Memory) _ c.args.reading (λ frames. ⊥) c.args.framing _ _ _ _ _
    (never_read c.args.reading (λ frames. ⊥) c.args.framing _ _)

pub returns-in_err-refused : goal.returns-in_err-refused
returns-in_err-refused g c =
    let first = c.in-Ok.stream.gathering in
    let p = err_from_is_err_and c.from_residual.result c.from_residual.ensures.1 in
    pumped_at g.P.Spill.tells g.P.Run.Input.state first c.args.reading c.args.set (Stream c.args.framing) _ _ _
    c.in-Ok.ensures.reading c.in-Ok.ensures.set
    (rw (p.1, p.2) (never_finished _ _ first.reading _ c.args.framing _ _ _ _ _
    (c.in_err-refused.ensures first c.args.framing c.in-Ok.ensures.begun)))

pub returns : goal.returns
returns g c =
    let first = c.in-Ok.stream.gathering in
    pumped_at g.P.Spill.tells g.P.Run.Input.state first c.args.reading c.args.set (Stream c.args.framing) _ _ _
    c.in-Ok.ensures.reading c.in-Ok.ensures.set
    (finished g.P.Spill.tells g.P.Run.Input.state first c.gather.new.stream.gathering c.args.framing _ _ _ _ _ _
    _ c.finish.result (c.in_ok-refused.ensures first c.args.framing c.in-Ok.ensures.begun)
    (record { written = c.finish.ensures.written; status = c.finish.ensures.status; stop = c.finish.ensures.stop }))
