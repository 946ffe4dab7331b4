use Rattle.store_keeper.proofs.Kept.{kept_keeps}
use Rattle.store_keeper.proofs.keeper.DiskKeeper.disk.Goals as goal

pub returns-clause-keeps : goal.returns-clause-keeps
returns-clause-keeps g c = rw c.inner.ensures (λ tells k on.
    kept_keeps c.args.self.now.store (g.D.Disk.state c.args.self.now.disk.disk) k (on tells))
