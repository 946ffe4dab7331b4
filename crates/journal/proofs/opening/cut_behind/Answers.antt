use Rattle.std.proofs.Common.{ℕ, ◌+◌, subst}
use Rattle.disk.specs.Files.{cut_to}
use Rattle.disk.specs.Calls.{ChangesFile, FailsAt}
use Rattle.journal.proofs.Commit.{At, after_sync}
use Rattle.journal.proofs.Repair.{cut_fails, last_sync_fails, rests, rest_leaves}
use Rattle.journal.proofs.opening.cut_behind.Goals as goal

pub returns-in_err-cut-clause-leaves : goal.returns-in_err-cut-clause-leaves
returns-in_err-cut-clause-leaves g c tells bodies closing end_is =
    let zero_at = g.D.Disk.state c.args.disk.now in
    let one = g.D.Disk.state c.sync.new.self in
    let two = g.D.Disk.state c.cut.new.self in
    let name = c.args.name.now in
    let start : At zero_at name closing.file = record { entry = closing.entry; sound = closing.sound } in
    let synced = after_sync zero_at one name closing.file start (c.in_ok-sync.ensures.done (c.cut.ensures.told tells))
    in
    cut_fails zero_at one two two name bodies closing synced c.in_err-cut.field-0.0
    (subst (λ (n : ℕ). FailsAt one two name c.in_err-cut.field-0.0 (ChangesFile one two name (cut_to (n + 1)))) end_is
    (c.in_err-cut.ensures.done tells))

pub returns-in_err-sync-2-clause-leaves : goal.returns-in_err-sync-2-clause-leaves
returns-in_err-sync-2-clause-leaves g c tells bodies closing end_is =
    let zero_at = g.D.Disk.state c.args.disk.now in
    let one = g.D.Disk.state c.sync.new.self in
    let two = g.D.Disk.state c.cut.new.self in
    let three = g.D.Disk.state c.sync-2.new.self in
    let name = c.args.name.now in
    let tells_two = c.sync-2.ensures.told tells in
    let start : At zero_at name closing.file = record { entry = closing.entry; sound = closing.sound } in
    let synced = after_sync zero_at one name closing.file start
    (c.in_ok-sync.ensures.done (c.cut.ensures.told tells_two)) in
    last_sync_fails zero_at one two three name bodies closing synced c.in_err-sync-2.field-0.0
    (subst (λ (n : ℕ). ChangesFile one two name (cut_to (n + 1))) end_is (c.in_ok-cut.ensures.done tells_two))
    (c.in_err-sync-2.ensures.done tells)

pub returns-clause-at_rest : goal.returns-clause-at_rest
returns-clause-at_rest g c tells bodies closing end_is =
    let zero_at = g.D.Disk.state c.args.disk.now in
    let one = g.D.Disk.state c.sync.new.self in
    let two = g.D.Disk.state c.cut.new.self in
    let three = g.D.Disk.state c.sync-2.new.self in
    let name = c.args.name.now in
    let tells_two = c.sync-2.ensures.told tells in
    let start : At zero_at name closing.file = record { entry = closing.entry; sound = closing.sound } in
    let synced = after_sync zero_at one name closing.file start
    (c.in_ok-sync.ensures.done (c.cut.ensures.told tells_two)) in
    rests zero_at one two three name bodies closing synced
    (subst (λ (n : ℕ). ChangesFile one two name (cut_to (n + 1))) end_is (c.in_ok-cut.ensures.done tells_two))
    (c.in_ok-sync-2.ensures.done tells)

pub returns-clause-leaves : goal.returns-clause-leaves
returns-clause-leaves g c tells bodies closing end_is = rest_leaves (g.D.Disk.state c.sync-2.new.self) c.args.name.now
    bodies (returns-clause-at_rest g c tells bodies closing end_is)
