use Rattle.store_expiry.proofs.Shedding.{settled_gone, sync_settles}
use Rattle.store_expiry.proofs.removal.settle_removals.Goals as goal

pub returns-in-Ok-clause-gone : goal.returns-in-Ok-clause-gone
returns-in-Ok-clause-gone g c t sound on name none =
    settled_gone (g.D.Disk.state c.args.disk.now) (g.D.Disk.state c.sync_names.new.self) name (c.in-Ok.ensures.done t)
    sound none

pub returns-in-Ok-clause-settles : goal.returns-in-Ok-clause-settles
returns-in-Ok-clause-settles g c t =
    sync_settles (g.D.Disk.state c.args.disk.now) (g.D.Disk.state c.sync_names.new.self) c.sync_names.result
    (c.sync_names.ensures.done t)

pub returns-in-Err-clause-settles : goal.returns-in-Err-clause-settles
returns-in-Err-clause-settles g c t =
    sync_settles (g.D.Disk.state c.args.disk.now) (g.D.Disk.state c.sync_names.new.self) c.sync_names.result
    (c.sync_names.ensures.done t)
