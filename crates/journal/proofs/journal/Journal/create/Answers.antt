use Rattle.std.proofs.Common.{refl}
use Rattle.journal.proofs.Begun.{begun_leaves, begun_shows, made_begun, names_failed, names_settled, octet_failed}
use Rattle.journal.proofs.Begun.{octet_written, sync_failed, synced}
use Rattle.journal.proofs.Create.{made}
use Rattle.journal.proofs.journal.Journal.create.Goals as goal

pub returns-clause-created : goal.returns-clause-created
returns-clause-created g c tells sound =
    let tells_three = c.sync_names.ensures.told tells in
    let tells_two = c.sync.ensures.told tells_three in
    let tells_one = c.append.ensures.told tells_two in
    made (g.D.Disk.state c.args.disk.now) (g.D.Disk.state c.create.new.self) (g.D.Disk.state c.append.new.self)
    (g.D.Disk.state c.sync.new.self) (g.D.Disk.state c.sync_names.new.self) c.args.name _ sound
    (c.in_ok-create.ensures.done tells_one) (c.in_ok-append.ensures.done tells_two)
    (c.in_ok-sync.ensures.done tells_three) (c.in_ok-sync_names.ensures.done tells) refl refl

pub returns-in_err-create-clause-any_moment : goal.returns-in_err-create-clause-any_moment
returns-in_err-create-clause-any_moment g c tells sound =
    begun_leaves _ _ _ (made_begun _ _ _ (c.in_err-create.ensures.done tells).0)

pub returns-in_err-create-clause-shows : goal.returns-in_err-create-clause-shows
returns-in_err-create-clause-shows g c tells none =
    begun_shows _ _ _ (made_begun _ _ _ (c.in_err-create.ensures.done tells).0) none

pub returns-in_err-append-clause-any_moment : goal.returns-in_err-append-clause-any_moment
returns-in_err-append-clause-any_moment g c tells sound =
    begun_leaves _ _ _ (octet_failed _ _ _ _ _ (c.in_ok-create.ensures.done (c.append.ensures.told tells))
    (c.in_err-append.ensures.done tells))

pub returns-in_err-append-clause-shows : goal.returns-in_err-append-clause-shows
returns-in_err-append-clause-shows g c tells none =
    begun_shows _ _ _ (octet_failed _ _ _ _ _ (c.in_ok-create.ensures.done (c.append.ensures.told tells))
    (c.in_err-append.ensures.done tells)) none

pub returns-in_err-sync-clause-any_moment : goal.returns-in_err-sync-clause-any_moment
returns-in_err-sync-clause-any_moment g c tells sound =
    let before = c.sync.ensures.told tells in
    begun_leaves _ _ _ (sync_failed _ _ _ _ _ (octet_written _ _ _ _
    (c.in_ok-create.ensures.done (c.append.ensures.told before)) (c.in_ok-append.ensures.done before))
    (c.in_err-sync.ensures.done tells))

pub returns-in_err-sync-clause-shows : goal.returns-in_err-sync-clause-shows
returns-in_err-sync-clause-shows g c tells none =
    let before = c.sync.ensures.told tells in
    begun_shows _ _ _ (sync_failed _ _ _ _ _ (octet_written _ _ _ _
    (c.in_ok-create.ensures.done (c.append.ensures.told before)) (c.in_ok-append.ensures.done before))
    (c.in_err-sync.ensures.done tells)) none

pub returns-in_err-sync_names-clause-any_moment : goal.returns-in_err-sync_names-clause-any_moment
returns-in_err-sync_names-clause-any_moment g c tells sound =
    let synced_then = c.sync_names.ensures.told tells in
    let before = c.sync.ensures.told synced_then in
    begun_leaves _ _ _ (names_failed _ _ _ _ (synced _ _ _ _ (octet_written _ _ _ _
    (c.in_ok-create.ensures.done (c.append.ensures.told before))
    (c.in_ok-append.ensures.done before)) (c.in_ok-sync.ensures.done synced_then))
    (c.in_err-sync_names.ensures.done tells))

pub returns-in_err-sync_names-clause-shows : goal.returns-in_err-sync_names-clause-shows
returns-in_err-sync_names-clause-shows g c tells none =
    let synced_then = c.sync_names.ensures.told tells in
    let before = c.sync.ensures.told synced_then in
    begun_shows _ _ _ (names_failed _ _ _ _ (synced _ _ _ _ (octet_written _ _ _ _
    (c.in_ok-create.ensures.done (c.append.ensures.told before))
    (c.in_ok-append.ensures.done before)) (c.in_ok-sync.ensures.done synced_then))
    (c.in_err-sync_names.ensures.done tells)) none

pub returns-clause-shows : goal.returns-clause-shows
returns-clause-shows g c tells none =
    let synced_then = c.sync_names.ensures.told tells in
    let before = c.sync.ensures.told synced_then in
    names_settled _ _ _ _ (synced _ _ _ _ (octet_written _ _ _ _
    (c.in_ok-create.ensures.done (c.append.ensures.told before))
    (c.in_ok-append.ensures.done before)) (c.in_ok-sync.ensures.done synced_then))
    (c.in_ok-sync_names.ensures.done tells)
