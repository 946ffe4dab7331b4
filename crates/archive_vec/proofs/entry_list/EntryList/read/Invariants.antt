use Rattle.std.proofs.Common.{◌≡◌, ◌++◌, length}
use Rattle.archive_text.specs.Text.{text_of}
use Rattle.archive_vec.proofs.entry_list.EntryList.read.Given as goal

abbrev pub invariant-loop-rest : goal.invariant-loop-rest
invariant-loop-rest l = l.text ≡ text_of l.list ++ l.rest

abbrev pub decreases-loop-rest : goal.decreases-loop-rest
decreases-loop-rest l = length l.rest
