use Rattle.std.proofs.Common.{refl}
use Rattle.durable_store.proofs.Readable.{none_begins}
use Rattle.durable_store.proofs.recovery.add_first.Goals as goal

pub returns-in-Err-clause-fault : goal.returns-in-Err-clause-fault
returns-in-Err-clause-fault c = (refl, none_begins c.args.text.now c.in-Err.fault c.in-Err.ensures)
