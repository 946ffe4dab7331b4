use Rattle.std.proofs.Common.{◌≡◌, ◌+◌, ◌≤◌, ℕ, List, length}
use Rattle.syslog_frame.specs.Scan.{IsReading}
use Rattle.syslog_frame.specs.declared.framing.Framing.{Framing}
use Rattle.driver.specs.Effects.{Done, done_of, then_done}
use Rattle.frame_engine.specs.Streams.{HasHandled}
use Rattle.frame_engine.proofs.StreamLemmas.{HandledPiece}
use Rattle.frame_engine.proofs.stream.feed.Given as goal

abbrev pub invariant-loop-rest : goal.invariant-loop-rest
invariant-loop-rest g l = record {
  reading : IsReading l.scanner;
  position : l.scanner.position + length l.rest ≡ l.fn.scanner.position + length l.piece;
  few : l.number + length l.rest ≤ l.fn.number + length l.piece;
  handled : (first : _) (kind : Framing) (octets : List ℕ) (before : Done)
      → HasHandled (g.D.FrameHandler.handles first) (g.D.FrameHandler.stands first l.fn.handler) l.fn.scanner kind octets
      l.fn.number (then_done before (done_of l.fn.effects))
      → HandledPiece (g.D.FrameHandler.handles first) (g.D.FrameHandler.stands first l.handler) l.scanner kind octets
      l.piece l.rest l.number (then_done before (done_of l.effects));
}

abbrev pub decreases-loop-rest : goal.decreases-loop-rest
decreases-loop-rest g l = length l.rest
