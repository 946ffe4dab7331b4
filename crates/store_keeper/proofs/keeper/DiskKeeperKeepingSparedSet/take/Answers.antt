use Rattle.std.proofs.Common.{[]}
use Rattle.store_keeper.specs.Keeping.{with_held}
use Rattle.store_keeper.specs.Spares.{spared_entries}
use Rattle.store_keeper.proofs.Taking.{handed_all, handed_some, none}
use Rattle.store_keeper.proofs.keeper.DiskKeeperKeepingSparedSet.take.Goals as goal

pub returns-in_err-relieve-clause-hands : goal.returns-in_err-relieve-clause-hands
returns-in_err-relieve-clause-hands g c k stands = (
  with_held k [],
  λ tells. none k c.relieve.new.self.store (g.D.Disk.state c.relieve.new.self.disk.disk) (c.relieve.ensures.kept k stands tells),
  handed_some k [] (spared_entries c.args.fresh.now) (λ x h. absurd h),
)

pub returns-clause-hands : goal.returns-clause-hands
returns-clause-hands g c k stands = (
  with_held k (spared_entries c.args.fresh.now),
  c.in_ok-taken.ensures.all k (c.relieve.ensures.kept k stands),
  handed_all k (spared_entries c.args.fresh.now) (spared_entries c.clear.new.self) c.clear.ensures.empty,
)

pub returns-in_err-taken-clause-hands : goal.returns-in_err-taken-clause-hands
returns-in_err-taken-clause-hands g c k stands =
    let some = c.add_set.ensures.some k (c.relieve.ensures.kept k stands) in (
      with_held k some.0,
      some.2,
      rw c.add_set.ensures.same (handed_some k some.0 (spared_entries c.args.fresh.now) some.1),
    )
