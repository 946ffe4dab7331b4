use Rattle.store_addition.proofs.Disks.{nothing_added}
use Rattle.store_addition.proofs.Steps.{none_begun}
use Rattle.store_addition.proofs.add.add_archive.Goals as goal

pub returns-in_default-clause-interrupted : goal.returns-in_default-clause-interrupted
returns-in_default-clause-interrupted g c =
    nothing_added (g.D.Disk.tells c.args.disk.now) (g.D.Disk.has_failed c.args.disk.now)
    (g.R.Input.state c.args.input.now) (g.D.Disk.state c.args.disk.now) c.none.result c.none.ensures
    (none_begun (g.R.Input.state c.args.input.now))
