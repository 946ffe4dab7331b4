use Rattle.std.proofs.Common.{sym, subst}
use Rattle.syslog_fields.specs.Canonical.{Canonical}
use Rattle.archive_text.specs.Entries.{Entry}
use Rattle.archive_text.specs.declared.limits.TheConstants.{ENTRY_MAX}
use Rattle.archive_vec.proofs.Adding.{entry_with, long_for_each}
use Rattle.archive_vec.proofs.vec_archive.VecArchive.add.Goals as goal

pub returns-clause-long : goal.returns-clause-long
returns-clause-long c =
    let r = c.args.record.now in
    let e : Entry = record { instant = c.instant.result; octets = c.as_slice.result.now } in
    let canonical = subst (Canonical r) (sym c.as_slice.ensures.value) c.in-Ok.ensures in
    λ h f k. long_for_each ENTRY_MAX r e f (entry_with r e c.priority-valid.ensures.valid c.instant.ensures canonical)
    (c.add.ensures.long h) k
