use Rattle.std.proofs.Common.{List, ℕ, subst, Bool}
use Rattle.octet_devices.specs.Transfers.{WroteAll, WrotePart}
use Rattle.store_statistics.proofs.Ending.{AreLines, are_lines, memory_ran, unwritten_ran, written_ran}
use Rattle.store_statistics.proofs.stat.stat_store.Goals as goal

pub returns-in_default-clause-ran : goal.returns-in_default-clause-ran
returns-in_default-clause-ran g c =
    memory_ran _ _ _ (g.W.Output.state c.args.output.now) (g.N.Output.state c.args.diagnostics.now) _ _
    c.tell_damaged-told.result _ c.survey_files-surveyed.new.survey
    (c.survey_files-surveyed.ensures.right c.new-survey.ensures)
    (rw c.deref.ensures.value at c.tell_damaged-told.ensures) c.report_read_fault.ensures

pub returns-in-Err-clause-ran : goal.returns-in-Err-clause-ran
returns-in-Err-clause-ran g c =
    let old = g.W.Output.state c.args.output.now in
    let new = g.W.Output.state c.write_all.new.writer in
    unwritten_ran _ _ _ old new (g.N.Output.state c.args.diagnostics.now) _ _ c.tell_damaged-told.result _
    c.survey_files-surveyed.new.survey (c.survey_files-surveyed.ensures.order c.new-survey.ensures)
    (c.survey_files-surveyed.ensures.right c.new-survey.ensures)
    (rw c.deref.ensures.value at c.tell_damaged-told.ensures) c.is_ok.result c.in-Ok.lines.items
    c.in-Err.field-0.sent
    (are_lines _ _ _ _ c.deref-2.ensures.value c.in-Ok.ensures.all c.in-Ok.ensures.some)
    (subst (λ (text : List ℕ). WrotePart old new text c.in-Err.field-0.sent) c.deref-3.ensures.value c.in-Err.ensures)
    c.report_read_fault-in-Err.ensures

pub returns-clause-ran : goal.returns-clause-ran
returns-clause-ran g c =
    let old = g.W.Output.state c.args.output.now in
    let new = g.W.Output.state c.write_all.new.writer in
    written_ran _ _ _ old new (g.N.Output.state c.args.diagnostics.now) _ _ c.tell_damaged-told.result _
    c.survey_files-surveyed.new.survey (c.survey_files-surveyed.ensures.order c.new-survey.ensures)
    (c.survey_files-surveyed.ensures.right c.new-survey.ensures)
    (rw c.deref.ensures.value at c.tell_damaged-told.ensures) c.survey_files-surveyed.result c.in-Ok.lines.items
    (subst (λ (b : Bool). AreLines c.survey_files-surveyed.new.survey.files.items b c.in-Ok.lines.items)
    c.is_ok.ensures.value (are_lines _ _ _ _ c.deref-2.ensures.value c.in-Ok.ensures.all c.in-Ok.ensures.some))
    (subst (WroteAll old new) c.deref-3.ensures.value c.in_default-write_all.ensures)
    c.survey_files-surveyed.ensures.listed c.survey_files-surveyed.ensures.cause c.end.ensures.done c.end.ensures.fault
