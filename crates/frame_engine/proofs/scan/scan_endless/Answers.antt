use Rattle.driver.proofs.Ends.{unstarted}
use Rattle.frame_engine.specs.Sessions.{handler_meaning}
use Rattle.frame_engine.specs.declared.input_framing.InputFraming.TheVariants.{Stream}
use Rattle.frame_engine.proofs.SessionLemmas.{nothing_begun, nothing_goes_on, nothing_part}
use Rattle.frame_engine.proofs.scan.scan_endless.Goals as goal

pub returns-in_default : goal.returns-in_default
returns-in_default g c =
    let D = g.D.FrameHandler.handles c.args.handler in
    let T = g.D.FrameHandler.reports c.args.handler in
    let E = g.D.FrameHandler.ends c.args.handler in
    let b = nothing_begun D T c.args.input_framing in
    unstarted _ (handler_meaning D T E c.args.input_framing) _ _ _ b.0 b.1 c.report.ensures.reports

pub returns-in_default-new : goal.returns-in_default-new
returns-in_default-new g c =
    let D = g.D.FrameHandler.handles c.args.handler in
    let T = g.D.FrameHandler.reports c.args.handler in
    let E = g.D.FrameHandler.ends c.args.handler in
    rw c.in-Stream.is (unstarted _ (handler_meaning D T E (Stream c.in-Stream.framing)) _ _ _
    (nothing_goes_on D c.in-Stream.framing) (nothing_part D c.in-Stream.framing)
    c.report-in_default-new.ensures.reports)
