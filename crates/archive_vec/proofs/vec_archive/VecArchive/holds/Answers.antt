use Rattle.std.proofs.Common.{sym, subst}
use Rattle.syslog_fields.specs.Canonical.{Canonical}
use Rattle.archive_text.specs.Entries.{Entry}
use Rattle.archive_vec.proofs.Adding.{entry_with, found_for_each}
use Rattle.archive_vec.proofs.vec_archive.VecArchive.holds.Goals as goal

pub returns : goal.returns
returns c =
    let r = c.args.record.now in
    let e : Entry = record { instant = c.instant.result; octets = c.as_slice.result.now } in
    let canonical = subst (Canonical r) (sym c.as_slice.ensures.value) c.in_ok-octets.ensures in
    λ f k. found_for_each c.args.self.now.list r e f c.find.result c.is_ok.result
    (entry_with r e c.priority-valid.ensures.valid c.instant.ensures canonical)
    c.find.ensures c.is_ok.ensures.value k
