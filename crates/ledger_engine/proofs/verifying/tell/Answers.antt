use Rattle.std.proofs.Common.{List, ℕ, ◌∙◌, inl, inr, refl, subst}
use Rattle.octet_devices.specs.Transfers.{WrotePart}
use Rattle.std.specs.Prelude.{Some}
use Rattle.store_reading.specs.declared.fault.ReadFault.TheVariants.{Memory, Write}
use Rattle.ledger_engine.proofs.verifying.tell.Goals as goal

pub returns-in_default : goal.returns-in_default
returns-in_default g c = (Some Memory, (inl refl, c.report_read_fault.ensures))

pub returns : goal.returns
returns g c =
    let part = subst (λ (text : List ℕ). WrotePart (g.W.Output.state c.args.output.now)
    (g.W.Output.state c.write_all.new.writer) text c.in-Err.field-0.sent) (c.deref.ensures.value ∙ c.in-Ok.ensures)
    (c.in-Err.ensures {u = tt}) in
    (Some Write, (inr (refl, (c.in-Err.field-0.sent, part)), c.report_read_fault-in-Err.ensures))
