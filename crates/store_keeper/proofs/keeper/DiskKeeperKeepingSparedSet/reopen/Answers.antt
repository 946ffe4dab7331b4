use Rattle.store_keeper.proofs.Kept.{same_kept}
use Rattle.store_keeper.proofs.keeper.DiskKeeperKeepingSparedSet.reopen.Goals as goal

pub returns-in-Ok-clause-kept : goal.returns-in-Ok-clause-kept
returns-in-Ok-clause-kept g c k stands tells =
    let told = c.reopen.ensures.told tells in
    same_kept c.args.self.now.store c.reopen.new.self (g.D.Disk.state c.args.self.now.disk.disk)
    (g.D.Disk.state c.reopen.new.disk.disk) k
    (c.reopen.ensures.stands tells (c.is_sound.ensures c.if-not-is_sound.false told)) (stands told)

pub returns-in-Err-clause-kept : goal.returns-in-Err-clause-kept
returns-in-Err-clause-kept g c k stands tells =
    let told = c.reopen.ensures.told tells in
    same_kept c.args.self.now.store c.reopen.new.self (g.D.Disk.state c.args.self.now.disk.disk)
    (g.D.Disk.state c.reopen.new.disk.disk) k
    (c.reopen.ensures.stands tells (c.is_sound.ensures c.if-not-is_sound.false told)) (stands told)
