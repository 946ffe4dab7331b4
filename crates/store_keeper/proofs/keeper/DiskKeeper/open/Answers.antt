use Rattle.durable_store.specs.Durables.{entries_of}
use Rattle.store_keeper.proofs.Kept.{open_kept}
use Rattle.store_keeper.proofs.keeper.DiskKeeper.open.Goals as goal

pub returns-in-Ok-clause-whole : goal.returns-in-Ok-clause-whole
returns-in-Ok-clause-whole g c = rw (← c.new-disk.ensures.over) (λ es keeps tells.
    open_kept c.in-Ok.store (g.D.Disk.state c.open.new.disk.disk) es (entries_of c.in-Ok.store)
    (c.in-Ok.ensures.opened tells (c.new-disk.ensures.sound (c.open.ensures.told tells)) es es keeps))

pub returns-in-Ok-clause-between : goal.returns-in-Ok-clause-between
returns-in-Ok-clause-between g c = rw (← c.new-disk.ensures.over) (λ tells.
    c.in-Ok.ensures.opened tells (c.new-disk.ensures.sound (c.open.ensures.told tells)))

pub returns-in-Ok-clause-aside : goal.returns-in-Ok-clause-aside
returns-in-Ok-clause-aside g c = rw (← c.new-disk.ensures.over) (λ tells.
    c.in-Ok.ensures.aside tells (c.new-disk.ensures.sound (c.open.ensures.told tells)))

pub returns-in-Err-clause-kept : goal.returns-in-Err-clause-kept
returns-in-Err-clause-kept g c = rw (c.into_inner.ensures, ← c.new-disk.ensures.over) (λ tells.
    c.open.ensures.any_moment tells (c.new-disk.ensures.sound (c.open.ensures.told tells)))
