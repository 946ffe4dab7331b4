use Rattle.std.proofs.Common.{arith}
use Rattle.std.proofs.lemmas.Grind.{common_steps}
use Rattle.archive_vec.proofs.ReadingSteps.{read_fault}
use Rattle.archive_vec.proofs.entry_list.EntryList.read.Goals as goal

pub returns-in-Err-clause-err : goal.returns-in-Err-clause-err
returns-in-Err-clause-err c =
    read_fault _ _ _ _ c.len-archive.ensures.archive c.loop-rest.invariant (grind (arith, common_steps))
    c.in-Err.ensures.err
