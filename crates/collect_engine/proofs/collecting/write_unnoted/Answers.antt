use Rattle.collect_engine.proofs.Collected.{took}
use Rattle.collect_engine.proofs.collecting.write_unnoted.Goals as goal

pub returns-in-Err-clause-written : goal.returns-in-Err-clause-written
returns-in-Err-clause-written g c =
    let w = c.write in
    took w.result _ _ _ w.ensures
