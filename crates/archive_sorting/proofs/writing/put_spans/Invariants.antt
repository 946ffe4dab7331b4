use Rattle.std.proofs.Common.{◌-◌, ◌≤◌, length, take}
use Rattle.octet_devices.specs.Held.{HasPut}
use Rattle.archive_text.specs.Text.{text_of}
use Rattle.archive_sorting.specs.Spans.{blocks_of, entries_at}
use Rattle.archive_sorting.proofs.writing.put_spans.Given as goal

abbrev pub invariant-parts : goal.invariant-parts
invariant-parts g l = record {
  near : l.from ≤ length l.spans;
  put : HasPut (g.W.Output.state l.fn.writer) (g.W.Output.state l.writer) l.fn.held l.held
      (text_of (entries_at (blocks_of l.arena) (take l.from l.spans)));
}

abbrev pub decreases-parts : goal.decreases-parts
decreases-parts g l = length l.spans - l.from
