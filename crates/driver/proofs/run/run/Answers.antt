use Rattle.driver.proofs.Ends.{ran_answered, ran_stopped}
use Rattle.driver.proofs.run.run.Goals as goal

pub returns-in-Ok : goal.returns-in-Ok
returns-in-Ok g c = λ begun. ran_answered _ _ _ _ _ (c.in-Ok.ensures begun)

pub returns-in-Err : goal.returns-in-Err
returns-in-Err g c = λ begun. ran_stopped _ _ _ _ _ c.in-Err.stopped c.close.result (c.in-Err.ensures begun) c.close.ensures
