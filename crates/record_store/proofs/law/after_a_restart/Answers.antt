use Rattle.record_store.proofs.Folders.{restarted}
use Rattle.record_store.proofs.law.after_a_restart.Goals as goal

pub returns-clause-keeps : goal.returns-clause-keeps
returns-clause-keeps c state anew files committed received keeps may rests =
    restarted state anew files committed received keeps may rests
