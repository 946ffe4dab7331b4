use Rattle.store_upkeep.proofs.SameSets.{place_on_disk}
use Rattle.store_expiry.proofs.Resting.{rename_fails_places, sync_places}
use Rattle.store_expiry.proofs.placing.place.Goals as goal

pub returns-in_err-rename-clause-places : goal.returns-in_err-rename-clause-places
returns-in_err-rename-clause-places g c tells period text es p =
    rename_fails_places (g.D.Disk.state c.args.disk.now) c.args.draft.now c.args.name.now period text es p
    (g.D.Disk.state c.rename.new.self) c.in_err-rename.field-0.0 (c.in_err-rename.ensures.done tells)

pub returns-in_err-sync_names-clause-places : goal.returns-in_err-sync_names-clause-places
returns-in_err-sync_names-clause-places g c tells period text es p =
    let told = c.sync_names.ensures.told tells in
    sync_places (g.D.Disk.state c.args.disk.now) c.args.draft.now c.args.name.now period text es p
    (g.D.Disk.state c.rename.new.self) (g.D.Disk.state c.sync_names.new.self) (c.in_ok-rename.ensures.done told)
    c.sync_names.result (c.sync_names.ensures.done tells)

pub returns-clause-placed : goal.returns-clause-placed
returns-clause-placed g c tells period text es p =
    let told = c.sync_names.ensures.told tells in
    place_on_disk (g.D.Disk.state c.args.disk.now) c.args.draft.now c.args.name.now period text es p
    (g.D.Disk.state c.rename.new.self) (g.D.Disk.state c.sync_names.new.self) (c.in_ok-rename.ensures.done told)
    (c.in_ok-sync_names.ensures.done tells)

pub returns-clause-places : goal.returns-clause-places
returns-clause-places g c tells period text es p =
    let told = c.sync_names.ensures.told tells in
    sync_places (g.D.Disk.state c.args.disk.now) c.args.draft.now c.args.name.now period text es p
    (g.D.Disk.state c.rename.new.self) (g.D.Disk.state c.sync_names.new.self) (c.in_ok-rename.ensures.done told)
    c.sync_names.result (c.sync_names.ensures.done tells)
