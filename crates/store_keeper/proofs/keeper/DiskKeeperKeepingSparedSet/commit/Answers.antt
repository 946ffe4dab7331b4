use Rattle.store_keeper.proofs.Kept.{commit_kept, same_kept}
use Rattle.store_keeper.proofs.keeper.DiskKeeperKeepingSparedSet.commit.Goals as goal

pub returns-in-Ok-clause-ok : goal.returns-in-Ok-clause-ok
returns-in-Ok-clause-ok g c k stands tells =
    commit_kept c.args.self.now.store c.commit.new.self (g.D.Disk.state c.args.self.now.disk.disk)
    (g.D.Disk.state c.commit.new.disk.disk) k (c.in-Ok.ensures.committed tells) (stands (c.commit.ensures.told tells))

pub returns-in-Err-clause-err : goal.returns-in-Err-clause-err
returns-in-Err-clause-err g c k stands tells =
    same_kept c.args.self.now.store c.commit.new.self (g.D.Disk.state c.args.self.now.disk.disk)
    (g.D.Disk.state c.commit.new.disk.disk) k (c.in-Err.ensures.err tells) (stands (c.commit.ensures.told tells))
