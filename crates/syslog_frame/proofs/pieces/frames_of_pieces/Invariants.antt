use Rattle.std.proofs.Common.{◌≤◌, map, take}
use Rattle.std.specs.Prelude.{option_map}
use Rattle.std.specs.List.{flat_map}
use Rattle.syslog_frame.specs.Pieces.{HasDelivered}
use Rattle.syslog_frame.specs.Scan.{IsReading}
use Rattle.syslog_frame.specs.declared.limits.TheConstants.{FRAME_MAX, POSITION_MAX}
use Rattle.syslog_frame.proofs.pieces.frames_of_pieces.Given as goal

abbrev pub invariant-loop-piece : goal.invariant-loop-piece
invariant-loop-piece l = record {
  reading : IsReading l.scanner;
  bound : l.scanner.position ≤ POSITION_MAX;
  delivered : HasDelivered FRAME_MAX l.scanner l.fn.framing (flat_map (λ v. v.items) (take l.piece-index l.pieces))
      (map (option_map (λ v. v.items)) l.frames.items);
}
