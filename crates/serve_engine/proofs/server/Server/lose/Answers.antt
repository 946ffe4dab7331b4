use Rattle.serve_engine.proofs.Ending.{end_goes_on, if_refused}
use Rattle.serve_engine.proofs.Turns.{never_memory}
use Rattle.serve_engine.proofs.server.Server.lose.Goals as goal

pub returns-clause-served : goal.returns-clause-served
returns-clause-served g c k first before at none =
    let made = c.end.ensures.received k first before at in
    let quiet = c.end.ensures.settled k first before at none in (
      made.0,
      made.1,
      (
        c.end.result,
        _,
        (_, _, none, never_memory c.end.result _ quiet, made.2, if_refused c.end.result _ tt),
        end_goes_on c.end.result c.end.ensures.memory,
      ),
      quiet,
    )
