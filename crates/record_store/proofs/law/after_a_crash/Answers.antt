use Rattle.record_store.proofs.law.after_a_crash.Goals as goal

pub returns-clause-forged : goal.returns-clause-forged
returns-clause-forged c state files committed received keeps may e held =
    keeps.nothing_forged files (λ name counts. may name) e held
