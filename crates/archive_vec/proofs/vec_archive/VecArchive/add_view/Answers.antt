use Rattle.std.proofs.Common.{◌∙◌, sym}
use Rattle.std.proofs.lemmas.Result.{IfOk-weaker}
use Rattle.syslog_reading.specs.ViewParts.{view_parts}
use Rattle.archive_text.specs.declared.limits.TheConstants.{ENTRY_MAX}
use Rattle.archive_text.proofs.Shown.{shown_added, shown_alone, shown_entry, shown_long}
use Rattle.archive_vec.proofs.vec_archive.VecArchive.add_view.Goals as goal

pub add-requires : goal.add-requires
add-requires c =
    let shown = shown_alone (view_parts c.args.view.now) c.write_canonical_view.result c.clear.new.self.items _
    c.as_slice.result.now c.write_canonical_view.ensures.shown (sym c.is_err.ensures.value ∙ c.if-is_err.false)
    c.clear.ensures.items c.as_slice.ensures.value in
    (shown.shown, shown_entry _ _ _ shown c.instant.ensures)

pub returns-clause-ok : goal.returns-clause-ok
returns-clause-ok c =
    let shown = shown_alone (view_parts c.args.view.now) c.write_canonical_view.result c.clear.new.self.items _
    c.as_slice.result.now c.write_canonical_view.ensures.shown (sym c.is_err.ensures.value ∙ c.if-is_err.false)
    c.clear.ensures.items c.as_slice.ensures.value in
    IfOk-weaker c.add.result _ _ (λ added adds b seen. shown_added _ _ b _ _ _ added shown c.instant.ensures seen adds)
    c.add.ensures.ok

pub returns-clause-long : goal.returns-clause-long
returns-clause-long c =
    let shown = shown_alone (view_parts c.args.view.now) c.write_canonical_view.result c.clear.new.self.items _
    c.as_slice.result.now c.write_canonical_view.ensures.shown (sym c.is_err.ensures.value ∙ c.if-is_err.false)
    c.clear.ensures.items c.as_slice.ensures.value in
    λ t b seen. shown_long ENTRY_MAX _ _ b shown seen (c.add.ensures.long t)
