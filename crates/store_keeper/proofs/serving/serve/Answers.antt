use Rattle.std.proofs.Common.{ap}
use Rattle.store_keeper.proofs.Left.{run_leaves}
use Rattle.store_keeper.proofs.serving.serve.Goals as goal

pub returns-clause-leaves : goal.returns-clause-leaves
returns-clause-leaves g c k first before at none =
    run_leaves c.serve.result _ _ k first before (ap (λ m. m.reading) c.serve.ensures.manner)
    (c.serve.ensures.served.done k first before at none)

pub returns-clause-leads : goal.returns-clause-leads
returns-clause-leads g c = c.serve.ensures.served.leads

pub returns-clause-syncs : goal.returns-clause-syncs
returns-clause-syncs g c = c.serve.ensures.syncs
