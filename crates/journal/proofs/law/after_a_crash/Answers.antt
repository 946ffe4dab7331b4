use Rattle.journal.proofs.Readings.{found_after}
use Rattle.journal.proofs.law.after_a_crash.Goals as goal

pub returns : goal.returns
returns c state name bodies body files file found leaves may is has = found_after state name bodies body (files name)
    file found leaves (may name) is has
