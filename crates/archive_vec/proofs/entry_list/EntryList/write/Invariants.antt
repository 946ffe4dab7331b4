use Rattle.std.proofs.Common.{take}
use Rattle.octet_devices.specs.Held.{HasPut}
use Rattle.archive_text.specs.Text.{text_of}
use Rattle.archive_text.proofs.Puts.{fresh}
use Rattle.archive_vec.proofs.entry_list.EntryList.write.Given as goal

abbrev pub invariant-loop-index : goal.invariant-loop-index
invariant-loop-index g l =
    HasPut (g.W.Output.state l.fn.writer) (g.W.Output.state l.writer) fresh l.held (text_of (take l.index l.self))
