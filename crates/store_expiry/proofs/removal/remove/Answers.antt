use Rattle.store_expiry.proofs.Shedding.{remove_lost, remove_others, remove_sheds}
use Rattle.store_expiry.proofs.removal.remove.Goals as goal

pub returns-in-Ok-clause-sheds : goal.returns-in-Ok-clause-sheds
returns-in-Ok-clause-sheds g c t x spared =
    remove_sheds x (g.D.Disk.state c.args.disk.now) (g.D.Disk.state c.remove.new.self) c.args.name.now c.remove.result
    (c.remove.ensures.done t) spared

pub returns-in-Err-clause-sheds : goal.returns-in-Err-clause-sheds
returns-in-Err-clause-sheds g c t x spared =
    remove_sheds x (g.D.Disk.state c.args.disk.now) (g.D.Disk.state c.remove.new.self) c.args.name.now c.remove.result
    (c.remove.ensures.done t) spared

pub returns-in-Ok-clause-others : goal.returns-in-Ok-clause-others
returns-in-Ok-clause-others g c t =
    remove_others (g.D.Disk.state c.args.disk.now) (g.D.Disk.state c.remove.new.self) c.args.name.now c.remove.result
    (c.remove.ensures.done t)

pub returns-in-Err-clause-others : goal.returns-in-Err-clause-others
returns-in-Err-clause-others g c t =
    remove_others (g.D.Disk.state c.args.disk.now) (g.D.Disk.state c.remove.new.self) c.args.name.now c.remove.result
    (c.remove.ensures.done t)

pub returns-in-Ok-clause-lost : goal.returns-in-Ok-clause-lost
returns-in-Ok-clause-lost g c t =
    remove_lost (g.D.Disk.state c.args.disk.now) (g.D.Disk.state c.remove.new.self) c.args.name.now c.remove.result
    (c.remove.ensures.done t)

pub returns-in-Err-clause-lost : goal.returns-in-Err-clause-lost
returns-in-Err-clause-lost g c t =
    remove_lost (g.D.Disk.state c.args.disk.now) (g.D.Disk.state c.remove.new.self) c.args.name.now c.remove.result
    (c.remove.ensures.done t)
