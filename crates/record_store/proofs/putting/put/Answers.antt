use Rattle.std.proofs.Common.{sym}
use Rattle.record_store.proofs.Placed.{put_any, put_others, rename_fails}
use Rattle.record_store.proofs.putting.put.Goals as goal

pub returns-in_err-rename-clause-any_moment : goal.returns-in_err-rename-clause-any_moment
returns-in_err-rename-clause-any_moment g c tells sound apart =
    let tells_one = c.rename.ensures.told tells in
    rename_fails (g.D.Disk.state c.args.disk.now) (g.D.Disk.state c.draft.new.disk) (g.D.Disk.state c.rename.new.self)
    (g.D.Disk.state c.rename.new.self) c.args.draft_name.now c.args.name.now c.args.text.now apart
    (c.in_ok-draft.ensures.others tells_one) (c.in_ok-draft.ensures.whole tells_one sound) c.in_err-rename.field-0.0
    (c.in_err-rename.ensures.done tells)

pub returns-clause-any_moment : goal.returns-clause-any_moment
returns-clause-any_moment g c tells sound apart =
    let tells_two = c.sync_names.ensures.told tells in
    let tells_one = c.rename.ensures.told tells_two in
    put_any (g.D.Disk.state c.args.disk.now) (g.D.Disk.state c.draft.new.disk) (g.D.Disk.state c.rename.new.self)
    (g.D.Disk.state c.sync_names.new.self) c.args.draft_name.now c.args.name.now c.args.text.now apart
    (c.in_ok-draft.ensures.others tells_one) (c.in_ok-draft.ensures.whole tells_one sound)
    ((c.in_ok-rename.ensures.done tells_two).1 (λ same. apart (sym same)))
    c.sync_names.result (c.sync_names.ensures.done tells)

pub returns-clause-others : goal.returns-clause-others
returns-clause-others g c tells =
    let tells_two = c.sync_names.ensures.told tells in
    let tells_one = c.rename.ensures.told tells_two in
    put_others (g.D.Disk.state c.args.disk.now) (g.D.Disk.state c.draft.new.disk) (g.D.Disk.state c.rename.new.self)
    (g.D.Disk.state c.sync_names.new.self) c.args.draft_name.now c.args.name.now
    (c.in_ok-draft.ensures.others tells_one) (c.in_ok-rename.ensures.done tells_two)
    c.sync_names.result (c.sync_names.ensures.done tells)
