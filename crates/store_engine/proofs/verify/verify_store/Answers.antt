use Rattle.std.proofs.Common.{List, ℕ, ap, subst, ◌≡◌, ◌∙◌}
use Rattle.std.specs.Prelude.{OnOk}
use Rattle.octet_devices.specs.Transfers.{WroteAll, WrotePart}
use Rattle.store_upkeep.specs.declared.damage.DamagedFile.{DamagedFile}
use Rattle.store_engine.specs.Lines.{damage_lines}
use Rattle.store_engine.specs.Verifying.{IsVerdictStatus}
use Rattle.store_engine.proofs.Verified.{as_told_first, memory_ran, unwritten_ran, verified_ran}
use Rattle.store_engine.proofs.verify.verify_store.Goals as goal

pub returns-in_default-clause-ran : goal.returns-in_default-clause-ran
returns-in_default-clause-ran g c =
    memory_ran _ _ _ (g.W.Output.state c.args.output.now) (g.N.Output.state c.args.diagnostics.now) _ _
    c.report_read_fault.ensures

pub returns-in-Err-clause-ran : goal.returns-in-Err-clause-ran
returns-in-Err-clause-ran g c =
    let old = g.W.Output.state c.args.output.now in
    let new = g.W.Output.state c.write_all.new.writer in
    unwritten_ran _ _ _ old new (g.N.Output.state c.args.diagnostics.now) _ _ c.verify-verified.new.damaged.items _
    (as_told_first _ _ _ c.new-damaged.ensures.items c.verify-verified.ensures.as_told)
    (subst (λ (text : List ℕ). WrotePart old new text c.in-Err.field-0.sent)
    (c.deref-2.ensures.value ∙ (c.in-Ok.ensures ∙ ap damage_lines c.deref.ensures.value)) c.in-Err.ensures)
    c.report_read_fault-in-Err.ensures

pub returns-clause-ran : goal.returns-clause-ran
returns-clause-ran g c =
    let old = g.W.Output.state c.args.output.now in
    let new = g.W.Output.state c.write_all.new.writer in
    verified_ran _ _ _ old new (g.N.Output.state c.args.diagnostics.now) _ _ c.verify-verified.new.damaged.items
    c.verify-verified.result (as_told_first _ _ _ c.new-damaged.ensures.items c.verify-verified.ensures.as_told)
    (subst (WroteAll old new) (c.deref-2.ensures.value ∙ (c.in-Ok.ensures ∙ ap damage_lines c.deref.ensures.value))
    c.in_default-write_all.ensures)
    c.verify-verified.ensures.listed c.verify-verified.ensures.cause
    (subst (λ (ds : List DamagedFile). OnOk c.verify-verified.result (IsVerdictStatus ds c.end.result
    × (g.N.Output.state c.end.new.diagnostics ≡ g.N.Output.state c.args.diagnostics.now))) c.deref-3.ensures.value
    c.end.ensures.done) c.end.ensures.told
