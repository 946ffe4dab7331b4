use Rattle.std.proofs.Common.{◌≡◌, ◌++◌, drop}
use Rattle.archive_vec.proofs.entry_list.EntryList.push_rest.Given as goal

abbrev pub invariant-loop-index : goal.invariant-loop-index
invariant-loop-index l = l.self ++ drop l.index l.other ≡ l.fn.self ++ drop l.from l.other
