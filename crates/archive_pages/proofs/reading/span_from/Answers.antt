use Rattle.std.proofs.Common.{refl}
use Rattle.archive_pages.proofs.Onward.{from_page}
use Rattle.archive_pages.proofs.reading.span_from.Goals as goal

pub pages-init : goal.pages-init
pages-init c = refl
