use Rattle.std.proofs.Common.{take}
use Rattle.octet_devices.specs.Held.{HasPut}
use Rattle.archive_text.specs.Text.{text_of}
use Rattle.archive_pages.specs.Pages.{entries_of}
use Rattle.archive_pages.specs.Spans.{blocks_of, lists_of}
use Rattle.archive_pages.proofs.writing.put_pages.Given as goal

abbrev pub invariant-loop-page : goal.invariant-loop-page
invariant-loop-page g l =
    HasPut (g.W.Output.state l.fn.writer) (g.W.Output.state l.writer) l.fn.held l.held
    (text_of (entries_of (blocks_of l.arena) (take l.page-index (lists_of l.pages))))
