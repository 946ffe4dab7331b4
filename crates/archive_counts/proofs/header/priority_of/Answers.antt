use Rattle.archive_counts.proofs.HeaderTexts.{priority_low, priority_made, priority_missed, priority_read}
use Rattle.archive_counts.proofs.header.priority_of.Goals as goal

pub returns-in-Ok : goal.returns-in-Ok
returns-in-Ok c = λ r known.
    priority_made c.from_value.result c.in-Ok.value r.priority c.from_value.ensures.valid c.from_value.ensures.value
    (priority_low c.args.octets.now c.in-Ok.«_rest».now c.in-Ok.value c.in-Ok.ensures)
    (priority_read r c.args.octets.now c.in-Ok.«_rest».now c.in-Ok.value known c.in-Ok.ensures)

pub returns-in-Err : goal.returns-in-Err
returns-in-Err c = λ r known. absurd (priority_missed r c.args.octets.now _ known c.in-Err.ensures)
