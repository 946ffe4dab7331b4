use Rattle.store_keeper.proofs.Kept.{same_kept, turn_commits, turn_kept}
use Rattle.store_keeper.proofs.keeper.DiskKeeper.write_out.Goals as goal

pub returns-in-Ok-clause-kept : goal.returns-in-Ok-clause-kept
returns-in-Ok-clause-kept g c k stands tells =
    turn_kept c.args.self.now.store c.checkpoint-done.new.self (g.D.Disk.state c.args.self.now.disk.disk)
    (g.D.Disk.state c.checkpoint-done.new.disk.disk) k (c.in-Ok.ensures.done tells)
    (stands (c.checkpoint-done.ensures.told tells))

pub returns-in-Ok-clause-done : goal.returns-in-Ok-clause-done
returns-in-Ok-clause-done g c k stands tells =
    turn_commits c.args.self.now.store c.checkpoint-done.new.self (g.D.Disk.state c.args.self.now.disk.disk)
    (g.D.Disk.state c.checkpoint-done.new.disk.disk) k (c.in-Ok.ensures.done tells)
    (stands (c.checkpoint-done.ensures.told tells))

pub returns-in-Err-clause-kept : goal.returns-in-Err-clause-kept
returns-in-Err-clause-kept g c k stands tells =
    same_kept c.args.self.now.store c.checkpoint-done.new.self (g.D.Disk.state c.args.self.now.disk.disk)
    (g.D.Disk.state c.checkpoint-done.new.disk.disk) k (c.in-Err.ensures.err tells)
    (stands (c.checkpoint-done.ensures.told tells))
