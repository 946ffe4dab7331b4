use Rattle.collect_engine.proofs.Collected.{noted, took}
use Rattle.collect_engine.proofs.collecting.tell_memory.Goals as goal

pub returns-in-Err-clause-noted : goal.returns-in-Err-clause-noted
returns-in-Err-clause-noted g c =
    let w = c.write_all in
    noted _ _ _ _ _
    (took w.result _ _ _ w.ensures)
