use Rattle.journal.proofs.Synced.{fail_shows, fails_leaves, names_fail, names_fail_shows, on_disk, on_disk_leaves}
use Rattle.journal.proofs.Synced.{settle_shows, sync_shows, then_shows}
use Rattle.journal.proofs.opening.settle.Goals as goal

pub returns-in_err-sync-clause-leaves : goal.returns-in_err-sync-clause-leaves
returns-in_err-sync-clause-leaves g c tells file octets shows may =
    fails_leaves (g.D.Disk.state c.args.disk.now) (g.D.Disk.state c.sync.new.self) c.args.name.now file.shown
    c.in_err-sync.field-0.0 octets (c.in_err-sync.ensures.done tells) may

pub returns-in_err-sync_names-clause-leaves : goal.returns-in_err-sync_names-clause-leaves
returns-in_err-sync_names-clause-leaves g c tells file octets shows may =
    names_fail (g.D.Disk.state c.args.disk.now) (g.D.Disk.state c.sync.new.self) (g.D.Disk.state c.sync_names.new.self)
    c.args.name.now file shows (c.in_ok-sync.ensures.done (c.sync_names.ensures.told tells)) octets
    (c.in_err-sync_names.ensures.done tells) may

pub returns-clause-on_disk : goal.returns-clause-on_disk
returns-clause-on_disk g c tells file shows =
    on_disk (g.D.Disk.state c.args.disk.now) (g.D.Disk.state c.sync.new.self) (g.D.Disk.state c.sync_names.new.self)
    c.args.name.now file shows (c.in_ok-sync.ensures.done (c.sync_names.ensures.told tells))
    (c.in_ok-sync_names.ensures.done tells)

pub returns-clause-leaves : goal.returns-clause-leaves
returns-clause-leaves g c tells file octets shows may =
    on_disk_leaves (g.D.Disk.state c.args.disk.now) (g.D.Disk.state c.sync.new.self)
    (g.D.Disk.state c.sync_names.new.self) c.args.name.now file shows
    (c.in_ok-sync.ensures.done (c.sync_names.ensures.told tells))
    (c.in_ok-sync_names.ensures.done tells) octets may

pub returns-in_err-sync-clause-shows : goal.returns-in_err-sync-clause-shows
returns-in_err-sync-clause-shows g c tells =
    fail_shows (g.D.Disk.state c.args.disk.now) (g.D.Disk.state c.sync.new.self) c.args.name.now c.in_err-sync.field-0.0
    (c.in_err-sync.ensures.done tells)

pub returns-in_err-sync_names-clause-shows : goal.returns-in_err-sync_names-clause-shows
returns-in_err-sync_names-clause-shows g c tells =
    then_shows (g.D.Disk.state c.args.disk.now) (g.D.Disk.state c.sync.new.self) (g.D.Disk.state c.sync_names.new.self)
    (sync_shows (g.D.Disk.state c.args.disk.now) (g.D.Disk.state c.sync.new.self) c.args.name.now (c.in_ok-sync.ensures.done (c.sync_names.ensures.told tells)))
    (names_fail_shows (g.D.Disk.state c.sync.new.self) (g.D.Disk.state c.sync_names.new.self) (c.in_err-sync_names.ensures.done tells))

pub returns-clause-shows : goal.returns-clause-shows
returns-clause-shows g c tells =
    then_shows (g.D.Disk.state c.args.disk.now) (g.D.Disk.state c.sync.new.self) (g.D.Disk.state c.sync_names.new.self)
    (sync_shows (g.D.Disk.state c.args.disk.now) (g.D.Disk.state c.sync.new.self) c.args.name.now (c.in_ok-sync.ensures.done (c.sync_names.ensures.told tells)))
    (settle_shows (g.D.Disk.state c.sync.new.self) (g.D.Disk.state c.sync_names.new.self) (c.in_ok-sync_names.ensures.done tells))
