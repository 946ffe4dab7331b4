use Rattle.std.proofs.Common.{subst}
use Rattle.durable_store.specs.Segments.{KeepsAside}
use Rattle.durable_store.proofs.Daily.{removed_aside}
use Rattle.durable_store.proofs.mixed.drop_draft.Goals as goal

pub returns-clause-aside : goal.returns-clause-aside
returns-clause-aside g c tells =
    let zero = g.D.Disk.state c.args.disk.now in
    let new = g.D.Disk.state c.remove.new.self in
    subst (KeepsAside zero new) c.in-Ok.ensures
    (removed_aside zero new c.in-Ok.file c.remove.result (c.remove.ensures.done tells))
