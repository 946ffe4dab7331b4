use Rattle.std.proofs.Common.{◌∙◌, refl, sym}
use Rattle.syslog_reading.specs.ViewParts.{view_parts}
use Rattle.archive_text.proofs.Shown.{shown_alone, shown_entry}
use Rattle.archive_proof.proofs.asked.AskedRecord.read.Goals as goal

pub returns-clause-record_is : goal.returns-clause-record_is
returns-clause-record_is c =
    let shown = shown_alone (view_parts c.in-Ok.seen) c.write_canonical_view.result c.new-canonical.result.items _
    c.write_canonical_view.new.out.items c.write_canonical_view.ensures.shown
    (sym c.is_err.ensures.value ∙ c.if-is_err.false) c.new-canonical.ensures.items refl in
    record {
      parts = shown.shown;
      spelled = shown.spelled c.args.octets.now c.in-Ok.ensures.whole;
      entry = shown_entry _ _ _ shown c.instant.ensures;
    }
