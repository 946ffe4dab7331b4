use Rattle.std.proofs.Common.{◌∙◌, sym}
use Rattle.std.proofs.lemmas.Result.{on_err_weaker, on_ok_weaker}
use Rattle.syslog_reading.specs.ViewParts.{view_parts}
use Rattle.archive_text.specs.declared.limits.TheConstants.{ENTRY_MAX}
use Rattle.archive_text.proofs.Shown.{shown_alone, shown_entry, shown_long}
use Rattle.archive_sorting.specs.Records.{entries_kept}
use Rattle.archive_sorting.proofs.Members.{same_kept, same_through, shown_more}
use Rattle.archive_sorting.proofs.unsorted.UnsortedRecordsRecordSet.add_view.Goals as goal

pub add_entry-requires-clause-entry : goal.add_entry-requires-clause-entry
add_entry-requires-clause-entry c =
    let shown = shown_alone (view_parts c.args.view.now) c.write_canonical_view.result c.clear.new.self.items _
    c.deref.result.now c.write_canonical_view.ensures.shown (sym c.is_err.ensures.value ∙ c.if-is_err.false)
    c.clear.ensures.items c.deref.ensures.value in
    (shown.shown, shown_entry _ _ _ shown c.instant.ensures)

pub returns-clause-ok : goal.returns-clause-ok
returns-clause-ok c =
    let shown = shown_alone (view_parts c.args.view.now) c.write_canonical_view.result c.clear.new.self.items _
    c.deref.result.now c.write_canonical_view.ensures.shown (sym c.is_err.ensures.value ∙ c.if-is_err.false)
    c.clear.ensures.items c.deref.ensures.value in
    on_ok_weaker c.add_entry.result
    (λ is. λ b seen es same. shown_more _ _ b _ (entries_kept c.shed.new.self) _ es shown c.instant.ensures seen is
    (same_through (entries_kept c.args.self.now) (entries_kept c.shed.new.self) es c.shed.ensures same))
    c.add_entry.ensures.ok

pub returns-clause-err : goal.returns-clause-err
returns-clause-err c =
    on_err_weaker c.add_entry.result
    (λ is. same_kept (entries_kept c.args.self.now) (entries_kept c.shed.new.self) _ is c.shed.ensures)
    c.add_entry.ensures.err

pub returns-clause-long : goal.returns-clause-long
returns-clause-long c =
    let shown = shown_alone (view_parts c.args.view.now) c.write_canonical_view.result c.clear.new.self.items _
    c.deref.result.now c.write_canonical_view.ensures.shown (sym c.is_err.ensures.value ∙ c.if-is_err.false)
    c.clear.ensures.items c.deref.ensures.value in
    λ t b seen. shown_long ENTRY_MAX _ _ b shown seen (c.add_entry.ensures.long t)
