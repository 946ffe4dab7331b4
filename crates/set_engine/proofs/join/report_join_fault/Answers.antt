use Rattle.std.proofs.Common.{inl, inr, ⊎_elim}
use Rattle.set_engine.proofs.join.report_join_fault.Goals as goal

pub returns-in-Read : goal.returns-in-Read
returns-in-Read g c = rw c.in-Read.is (elim c.report_on_input.ensures [ inl told ↦ inl told | inr memory ↦ inr (tt, memory) ])

pub returns-in-Endless : goal.returns-in-Endless
returns-in-Endless g c =
    rw c.in-Endless.is (elim c.report_on_input-in-Endless.ensures [ inl told ↦ inl told | inr memory ↦ inr (tt, memory) ])

pub returns-in-Write : goal.returns-in-Write
returns-in-Write g c = rw c.in-Write.is (inl c.report.ensures.reports)
