use Rattle.octet_devices.proofs.Putting.{finish_puts, puts_nothing}
use Rattle.archive_sorting.proofs.writing.begin_part.Goals as goal

pub returns-then-look_at-lt-MANY : goal.returns-then-look_at-lt-MANY
returns-then-look_at-lt-MANY g c = puts_nothing _ _

pub returns : goal.returns
returns g c = finish_puts _ _ _ _ _ c.finish.ensures.finishes
