use Rattle.std.proofs.Common.{ℕ, subst}
use Rattle.disk.specs.Calls.{ChangesFile, FailsAt}
use Rattle.disk.specs.Files.{overwritten}
use Rattle.journal.proofs.Repair.{put_fails, put_rests, put_sync_fails, rest_leaves}
use Rattle.journal.proofs.opening.renew.Goals as goal

pub returns-in_err-overwrite-clause-leaves : goal.returns-in_err-overwrite-clause-leaves
returns-in_err-overwrite-clause-leaves g c tells bodies rest end_is =
    let old = g.D.Disk.state c.args.disk.now in
    let one = g.D.Disk.state c.overwrite.new.self in
    let name = c.args.name.now in
    put_fails old one one name bodies rest 254 c.in_err-overwrite.field-0.0
    (subst (λ (at : ℕ). FailsAt old one name c.in_err-overwrite.field-0.0
    ((shown : ℕ) × ChangesFile old one name (overwritten at shown))) end_is (c.in_err-overwrite.ensures.done tells))

pub returns-in_err-sync-clause-leaves : goal.returns-in_err-sync-clause-leaves
returns-in_err-sync-clause-leaves g c tells bodies rest end_is =
    let old = g.D.Disk.state c.args.disk.now in
    let one = g.D.Disk.state c.overwrite.new.self in
    let two = g.D.Disk.state c.sync.new.self in
    let name = c.args.name.now in
    put_sync_fails old one two name bodies rest 254
    (subst (λ (at : ℕ). ChangesFile old one name (overwritten at 254)) end_is
    (c.in_ok-overwrite.ensures.done (c.sync.ensures.told tells)))
    c.in_err-sync.field-0.0 (c.in_err-sync.ensures.done tells)

pub returns-clause-at_rest : goal.returns-clause-at_rest
returns-clause-at_rest g c tells bodies rest end_is =
    let old = g.D.Disk.state c.args.disk.now in
    let one = g.D.Disk.state c.overwrite.new.self in
    let two = g.D.Disk.state c.sync.new.self in
    let name = c.args.name.now in
    put_rests old one two name bodies rest 254
    (subst (λ (at : ℕ). ChangesFile old one name (overwritten at 254)) end_is
    (c.in_ok-overwrite.ensures.done (c.sync.ensures.told tells)))
    (λ is. absurd (cc is)) (c.in_ok-sync.ensures.done tells)

pub returns-clause-leaves : goal.returns-clause-leaves
returns-clause-leaves g c tells bodies rest end_is =
    rest_leaves (g.D.Disk.state c.sync.new.self) c.args.name.now bodies
    (returns-clause-at_rest g c tells bodies rest end_is)
