use Rattle.std.proofs.Common.{◌≡◌, ◌+◌, ◌≤◌, ℕ, List, length, map}
use Rattle.std.specs.Prelude.{option_map}
use Rattle.syslog_frame.specs.Pieces.{HasDelivered}
use Rattle.syslog_frame.specs.Scan.{IsReading}
use Rattle.syslog_frame.specs.declared.framing.Framing.{Framing}
use Rattle.syslog_frame.specs.declared.limits.TheConstants.{FRAME_MAX, POSITION_MAX}
use Rattle.syslog_frame.proofs.Delivered.{HandledWith}
use Rattle.syslog_frame.proofs.pieces.read_piece.Given as goal

abbrev pub invariant-loop-rest : goal.invariant-loop-rest
invariant-loop-rest l = record {
  reading : IsReading l.scanner;
  position : l.scanner.position + length l.rest ≡ l.fn.scanner.position + length l.piece;
  bound : l.fn.scanner.position ≤ POSITION_MAX → l.scanner.position ≤ POSITION_MAX;
  delivered : (kind : Framing) (octets : List ℕ)
      → HasDelivered FRAME_MAX l.fn.scanner kind octets (map (option_map (λ v. v.items)) l.fn.out.items)
      → HandledWith FRAME_MAX l.scanner kind octets l.piece l.rest (map (option_map (λ v. v.items)) l.out.items);
}

abbrev pub decreases-loop-rest : goal.decreases-loop-rest
decreases-loop-rest l = length l.rest
