use Rattle.std.proofs.Common.{ap, inl, sym, ⊎_elim}
use Rattle.disk.specs.Memory.{shown_now}
use Rattle.record_store.proofs.Drafted.{draft_synced, draft_unsynced}
use Rattle.record_store.proofs.Placed.{put_any, put_others, rename_fails}
use Rattle.record_store.proofs.Remaining.{put_shows, rename_shows}
use Rattle.record_store.proofs.segment.place.Goals as goal

pub returns-in_err-sync-clause-any_moment : goal.returns-in_err-sync-clause-any_moment
returns-in_err-sync-clause-any_moment g c tells file shows apart =
    draft_unsynced (g.D.Disk.state c.args.disk.now) (g.D.Disk.state c.sync.new.self) c.args.draft.now c.args.name.now
    file.shown c.in_err-sync.field-0.0 (c.in_err-sync.ensures.done tells)

pub returns-in_err-rename-clause-any_moment : goal.returns-in_err-rename-clause-any_moment
returns-in_err-rename-clause-any_moment g c tells file shows apart =
    let zero = g.D.Disk.state c.args.disk.now in
    let one = g.D.Disk.state c.sync.new.self in
    let two = g.D.Disk.state c.rename.new.self in
    let syncs = c.in_ok-sync.ensures.done (c.rename.ensures.told tells) in
    rename_fails zero one two two c.args.draft.now c.args.name.now file.shown apart syncs.entry.others
    (draft_synced zero one c.args.draft.now file shows syncs) c.in_err-rename.field-0.0
    (c.in_err-rename.ensures.done tells)

pub returns-clause-any_moment : goal.returns-clause-any_moment
returns-clause-any_moment g c tells file shows apart =
    let zero = g.D.Disk.state c.args.disk.now in
    let one = g.D.Disk.state c.sync.new.self in
    let two = g.D.Disk.state c.rename.new.self in
    let told = c.sync_names.ensures.told tells in
    let syncs = c.in_ok-sync.ensures.done (c.rename.ensures.told told) in
    put_any zero one two (g.D.Disk.state c.sync_names.new.self) c.args.draft.now c.args.name.now file.shown apart
    syncs.entry.others (draft_synced zero one c.args.draft.now file shows syncs)
    ((c.in_ok-rename.ensures.done told).1 (λ same. apart (sym same))) c.sync_names.result
    (c.sync_names.ensures.done tells)

pub returns-clause-others : goal.returns-clause-others
returns-clause-others g c tells =
    let zero = g.D.Disk.state c.args.disk.now in
    let one = g.D.Disk.state c.sync.new.self in
    let two = g.D.Disk.state c.rename.new.self in
    let told = c.sync_names.ensures.told tells in
    let syncs = c.in_ok-sync.ensures.done (c.rename.ensures.told told) in
    put_others zero one two (g.D.Disk.state c.sync_names.new.self) c.args.draft.now c.args.name.now syncs.entry.others
    (c.in_ok-rename.ensures.done told) c.sync_names.result (c.sync_names.ensures.done tells)

pub returns-in_err-sync-clause-shows : goal.returns-in_err-sync-clause-shows
returns-in_err-sync-clause-shows g c tells file shows apart =
    let name = c.args.name.now in
    inl (⊎_elim
    (λ same. ap shown_now (same.entries name))
    (λ loses. ap shown_now (loses.entries name))
    (c.in_err-sync.ensures.done tells).done)

pub returns-in_err-rename-clause-shows : goal.returns-in_err-rename-clause-shows
returns-in_err-rename-clause-shows g c tells file shows apart =
    let zero = g.D.Disk.state c.args.disk.now in
    let one = g.D.Disk.state c.sync.new.self in
    let two = g.D.Disk.state c.rename.new.self in
    let name = c.args.name.now in
    let syncs = c.in_ok-sync.ensures.done (c.rename.ensures.told tells) in
    rename_shows zero one two c.args.draft.now name file.shown (ap shown_now (syncs.entry.others name apart))
    (draft_synced zero one c.args.draft.now file shows syncs) c.in_err-rename.field-0.0
    (c.in_err-rename.ensures.done tells)

pub returns-clause-shows : goal.returns-clause-shows
returns-clause-shows g c tells file shows apart =
    let zero = g.D.Disk.state c.args.disk.now in
    let one = g.D.Disk.state c.sync.new.self in
    let two = g.D.Disk.state c.rename.new.self in
    let name = c.args.name.now in
    let told = c.sync_names.ensures.told tells in
    let syncs = c.in_ok-sync.ensures.done (c.rename.ensures.told told) in
    put_shows zero one two c.args.draft.now name file.shown (ap shown_now (syncs.entry.others name apart))
    (draft_synced zero one c.args.draft.now file shows syncs) (g.D.Disk.state c.sync_names.new.self) c.sync_names.result
    ((c.in_ok-rename.ensures.done told).1 (λ same. apart (sym same))) (c.sync_names.ensures.done tells)
