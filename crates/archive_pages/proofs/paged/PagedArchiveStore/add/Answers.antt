use Rattle.std.proofs.Common.{◌<◌, length, List, ℕ, subst}
use Rattle.archive_text.specs.declared.limits.TheConstants.{ENTRY_MAX}
use Rattle.archive_pages.proofs.Records.{too_long}
use Rattle.archive_pages.proofs.paged.PagedArchiveStore.add.Goals as goal

pub returns-clause-long : goal.returns-clause-long
returns-clause-long c =
    λ t e is.
    too_long c.args.record.now c.in-Ok.octets.items c.in-Ok.ensures
    (subst (λ (s : List ℕ). ENTRY_MAX < length s) c.as_slice.ensures.value (c.add_counted.ensures.long t)) e is
