use Rattle.std.proofs.Common.{take}
use Rattle.octet_devices.specs.Held.{HasPut}
use Rattle.archive_text.specs.Text.{text_of}
use Rattle.archive_sorting.specs.Spans.{blocks_of, entries_at}
use Rattle.archive_sorting.proofs.writing.put_part.Given as goal

abbrev pub invariant-loop-span : goal.invariant-loop-span
invariant-loop-span g l =
    HasPut (g.W.Output.state l.fn.writer) (g.W.Output.state l.writer) l.fn.held l.held
    (text_of (entries_at (blocks_of l.arena) (take l.span-index l.part)))
