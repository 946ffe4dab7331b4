use Rattle.octet_devices.proofs.Putting.{finish_puts, puts_nothing}
use Rattle.archive_pages.proofs.writing.begin_page.Goals as goal

pub returns-then-octets_in-lt-MANY : goal.returns-then-octets_in-lt-MANY
returns-then-octets_in-lt-MANY g c = puts_nothing _ _

pub returns : goal.returns
returns g c = finish_puts _ _ _ _ _ c.finish.ensures.finishes
