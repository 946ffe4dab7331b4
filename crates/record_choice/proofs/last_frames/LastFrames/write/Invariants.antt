use Rattle.std.proofs.Common.{take}
use Rattle.octet_devices.specs.Held.{HasPut}
use Rattle.archive_text.proofs.Puts.{fresh}
use Rattle.record_choice.specs.Choices.{frames_text}
use Rattle.record_choice.specs.Kept.{frames_in}
use Rattle.record_choice.proofs.last_frames.LastFrames.write.Given as goal

abbrev pub invariant-loop-index : goal.invariant-loop-index
invariant-loop-index g l =
    HasPut (g.W.Output.state l.fn.writer) (g.W.Output.state l.writer) fresh l.held
    (frames_text (take l.index (frames_in l.self)))
