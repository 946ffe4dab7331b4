use Rattle.std.proofs.Common.{◌<◌, length, List, ℕ, subst, sym}
use Rattle.std.proofs.lemmas.Result.{on_err_weaker, on_ok_weaker}
use Rattle.syslog_fields.specs.Canonical.{Canonical}
use Rattle.archive_text.specs.Entries.{Entry, IsEntryOf}
use Rattle.archive_text.specs.declared.limits.TheConstants.{ENTRY_MAX}
use Rattle.archive_sorting.specs.Records.{entries_kept}
use Rattle.archive_sorting.proofs.Members.{same_kept, same_more, same_through, too_long}
use Rattle.archive_sorting.proofs.unsorted.UnsortedRecordsRecordSet.add.Goals as goal

pub returns-clause-ok : goal.returns-clause-ok
returns-clause-ok c =
    let r = c.args.record.now in
    let e : Entry = record { instant = c.instant.result; octets = c.as_slice.result.now } in
    let one : IsEntryOf r e = record {
      valid = c.priority.ensures.valid;
      instant = c.instant.ensures;
      canonical =
          subst (Canonical r) (sym c.as_slice.ensures.value) c.in-Ok.ensures;
    } in
    on_ok_weaker c.add_entry.result
    (λ is. λ es same. (
      e,
      one,
      same_more (entries_kept c.shed.new.self) _ es e is
          (same_through (entries_kept c.args.self.now) (entries_kept c.shed.new.self) es c.shed.ensures same),
    ))
    c.add_entry.ensures.ok

pub returns-clause-err : goal.returns-clause-err
returns-clause-err c =
    on_err_weaker c.add_entry.result
    (λ is. same_kept (entries_kept c.args.self.now) (entries_kept c.shed.new.self) _ is c.shed.ensures)
    c.add_entry.ensures.err

pub returns-clause-long : goal.returns-clause-long
returns-clause-long c =
    λ t e is.
    too_long c.args.record.now c.in-Ok.octets.items c.in-Ok.ensures
    (subst (λ (s : List ℕ). ENTRY_MAX < length s) c.as_slice.ensures.value (c.add_entry.ensures.long t)) e is
