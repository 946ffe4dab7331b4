use Rattle.std.proofs.Common.{refl}
use Rattle.record_store.proofs.Placed.{put_others}
use Rattle.store_upkeep.proofs.SameSets.{place_on_disk, place_set, rename_fails_others, rename_fails_set}
use Rattle.store_upkeep.proofs.compaction.place.Goals as goal

pub returns-in_err-rename-clause-set : goal.returns-in_err-rename-clause-set
returns-in_err-rename-clause-set g c tells day text es p =
    rename_fails_set (g.D.Disk.state c.args.disk.now) c.args.draft.now c.args.name.now day text es p
    (g.D.Disk.state c.rename.new.self) c.in_err-rename.field-0.0 (c.in_err-rename.ensures.done tells)

pub returns-in_err-rename-clause-others : goal.returns-in_err-rename-clause-others
returns-in_err-rename-clause-others g c tells =
    rename_fails_others (g.D.Disk.state c.args.disk.now) (g.D.Disk.state c.rename.new.self) c.args.draft.now
    c.args.name.now c.in_err-rename.field-0.0 (c.in_err-rename.ensures.done tells)

pub returns-in_err-sync_names-clause-set : goal.returns-in_err-sync_names-clause-set
returns-in_err-sync_names-clause-set g c tells day text es p =
    let told = c.sync_names.ensures.told tells in
    place_set (g.D.Disk.state c.args.disk.now) c.args.draft.now c.args.name.now day text es p
    (g.D.Disk.state c.rename.new.self) (g.D.Disk.state c.sync_names.new.self) (c.in_ok-rename.ensures.done told)
    c.sync_names.result (c.sync_names.ensures.done tells)

pub returns-in_err-sync_names-clause-others : goal.returns-in_err-sync_names-clause-others
returns-in_err-sync_names-clause-others g c tells =
    let told = c.sync_names.ensures.told tells in
    put_others (g.D.Disk.state c.args.disk.now) (g.D.Disk.state c.args.disk.now) (g.D.Disk.state c.rename.new.self)
    (g.D.Disk.state c.sync_names.new.self) c.args.draft.now c.args.name.now (λ other apart. refl)
    (c.in_ok-rename.ensures.done told) c.sync_names.result (c.sync_names.ensures.done tells)

pub returns-clause-placed : goal.returns-clause-placed
returns-clause-placed g c tells day text es p =
    let told = c.sync_names.ensures.told tells in
    place_on_disk (g.D.Disk.state c.args.disk.now) c.args.draft.now c.args.name.now day text es p
    (g.D.Disk.state c.rename.new.self) (g.D.Disk.state c.sync_names.new.self) (c.in_ok-rename.ensures.done told)
    (c.in_ok-sync_names.ensures.done tells)

pub returns-clause-set : goal.returns-clause-set
returns-clause-set g c tells day text es p =
    let told = c.sync_names.ensures.told tells in
    place_set (g.D.Disk.state c.args.disk.now) c.args.draft.now c.args.name.now day text es p
    (g.D.Disk.state c.rename.new.self) (g.D.Disk.state c.sync_names.new.self) (c.in_ok-rename.ensures.done told)
    c.sync_names.result (c.sync_names.ensures.done tells)

pub returns-clause-others : goal.returns-clause-others
returns-clause-others g c tells =
    let told = c.sync_names.ensures.told tells in
    put_others (g.D.Disk.state c.args.disk.now) (g.D.Disk.state c.args.disk.now) (g.D.Disk.state c.rename.new.self)
    (g.D.Disk.state c.sync_names.new.self) c.args.draft.now c.args.name.now (λ other apart. refl)
    (c.in_ok-rename.ensures.done told) c.sync_names.result (c.sync_names.ensures.done tells)
