use Rattle.store_keeper.specs.Spares.{spared_entries}
use Rattle.store_keeper.proofs.Left.{begins}
use Rattle.store_keeper.proofs.serving.server_on.Goals as goal

pub returns-clause-begins : goal.returns-clause-begins
returns-clause-begins g c es on =
    begins c.in_ok-server.server c.in-Ok.collector c.args.keeper es (spared_entries c.new-set.result)
    c.in_ok-server.ensures.collector c.in_ok-server.ensures.keeper c.new-set.ensures.empty c.in-Ok.ensures.stands on
