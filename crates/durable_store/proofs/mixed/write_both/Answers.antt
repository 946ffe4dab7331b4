use Rattle.std.proofs.Common.{arith}
use Rattle.archive_pages.specs.Paged.{entries_in}
use Rattle.journal.specs.Journals.{IsSound}
use Rattle.record_store.proofs.Remaining.{beside_less, beside_then}
use Rattle.durable_store.specs.Segments.{octets_of}
use Rattle.durable_store.proofs.Daily.{all_held, both_held, err_weaker, gains_then, on_ok_weaker}
use Rattle.durable_store.proofs.Failing.{keeping_less}
use Rattle.durable_store.proofs.Growth.{grows_set}
use Rattle.durable_store.proofs.Syncing.{syncs_few}
use Rattle.durable_store.proofs.mixed.write_both.Goals as goal

pub returns-in_err-write_days-clause-segments : goal.returns-in_err-write_days-clause-segments
returns-in_err-write_days-clause-segments g c tells sound =
    beside_less 64 65 (g.D.Disk.state c.args.disk.now) (g.D.Disk.state c.write_days.new.disk) (omega arith)
    (grows_set c.args.set.now c.set_len-total.result c.set_len-total.ensures (g.D.Disk.state c.args.disk.now)
    (g.D.Disk.state c.write_days.new.disk) (c.write_days.ensures.grows tells sound))

pub returns-clause-segments : goal.returns-clause-segments
returns-clause-segments g c tells sound =
    beside_less 64 65 (g.D.Disk.state c.args.disk.now) (g.D.Disk.state c.write_days.new.disk) (omega arith)
    (grows_set c.args.set.now c.set_len-total.result c.set_len-total.ensures (g.D.Disk.state c.args.disk.now)
    (g.D.Disk.state c.write_days.new.disk) (c.write_days.ensures.grows tells sound))

pub returns-clause-held : goal.returns-clause-held
returns-clause-held g c =
    all_held (g.D.Disk.tells c.write_days.new.disk) (g.D.Disk.tells c.write_days.new.disk) c.set_len-total.result
    (octets_of c.args.name) (g.D.Disk.state c.args.disk.now) (g.D.Disk.state c.write_days.new.disk) (g.D.Disk.state c.write_days.new.disk)
    c.in_ok-write_days.field-0 (entries_in c.args.set.now) (λ tells. tells) c.in_ok-write_days.ensures.wrote
    c.if-branch.false

pub returns-clause-sound : goal.returns-clause-sound
returns-clause-sound g c = c.in_ok-write_days.ensures.wrote.sound

pub returns-then-branch-clause-held : goal.returns-then-branch-clause-held
returns-then-branch-clause-held g c =
    on_ok_weaker _ _
    (λ wrote. both_held (g.D.Disk.tells c.write_mixed.new.disk) (g.D.Disk.tells c.write_days.new.disk)
    c.set_len-total.result (octets_of c.args.name) (g.D.Disk.state c.args.disk.now) (g.D.Disk.state c.write_days.new.disk)
    (g.D.Disk.state c.write_mixed.new.disk) c.in_ok-write_days.field-0 (entries_in c.args.set.now)
    c.write_mixed.ensures.told c.in_ok-write_days.ensures.wrote wrote c.write_mixed.ensures.gains)
    c.write_mixed.result c.write_mixed.ensures.wrote

pub returns-then-branch-clause-sound : goal.returns-then-branch-clause-sound
returns-then-branch-clause-sound g c =
    on_ok_weaker _ _
    (λ wrote tell sound.
    wrote.sound tell (c.in_ok-write_days.ensures.wrote.sound (c.write_mixed.ensures.told tell) sound))
    c.write_mixed.result c.write_mixed.ensures.wrote

pub returns-then-branch-clause-gains : goal.returns-then-branch-clause-gains
returns-then-branch-clause-gains g c tells sound =
    let told = c.write_mixed.ensures.told tells in
    gains_then (g.D.Disk.state c.args.disk.now) (g.D.Disk.state c.write_days.new.disk)
    (g.D.Disk.state c.write_mixed.new.disk) (octets_of c.args.name) (entries_in c.args.set.now)
    (c.write_days.ensures.gains told sound)
    (c.write_mixed.ensures.gains tells (c.in_ok-write_days.ensures.wrote.sound told sound))

pub returns-then-branch-clause-segments : goal.returns-then-branch-clause-segments
returns-then-branch-clause-segments g c tells sound =
    let zero = g.D.Disk.state c.args.disk.now in
    let one = g.D.Disk.state c.write_days.new.disk in
    let told = c.write_mixed.ensures.told tells in
    beside_then 64 1 zero one (g.D.Disk.state c.write_mixed.new.disk)
    (grows_set c.args.set.now c.set_len-total.result c.set_len-total.ensures zero one
    (c.write_days.ensures.grows told sound))
    (c.write_mixed.ensures.segments tells (c.in_ok-write_days.ensures.wrote.sound told sound))

pub returns-then-branch-clause-cause : goal.returns-then-branch-clause-cause
returns-then-branch-clause-cause g c =
    err_weaker _ _
    (λ fault cause. keeping_less (g.D.Disk.tells c.write_mixed.new.disk) (g.D.Disk.has_failed c.write_mixed.new.disk)
    (IsSound (g.D.Disk.state c.write_days.new.disk)) (IsSound (g.D.Disk.state c.args.disk.now))
    (g.D.Disk.state c.write_mixed.new.disk) fault
    (λ tell. c.in_ok-write_days.ensures.wrote.sound (c.write_mixed.ensures.told tell)) cause)
    c.write_mixed.result c.write_mixed.ensures.cause

pub returns-in_err-write_days-clause-syncs : goal.returns-in_err-write_days-clause-syncs
returns-in_err-write_days-clause-syncs g c =
    let few = syncs_few c.set_len-total.result (entries_in c.args.set.now) (g.D.Disk.syncs c.args.disk.now)
    (g.D.Disk.syncs c.write_days.new.disk) c.set_len-total.ensures c.write_days.ensures.syncs in
    omega (arith, few)

pub returns-clause-syncs : goal.returns-clause-syncs
returns-clause-syncs g c =
    let few = syncs_few c.set_len-total.result (entries_in c.args.set.now) (g.D.Disk.syncs c.args.disk.now)
    (g.D.Disk.syncs c.write_days.new.disk) c.set_len-total.ensures c.write_days.ensures.syncs in
    omega (arith, few)

pub returns-then-branch-clause-syncs : goal.returns-then-branch-clause-syncs
returns-then-branch-clause-syncs g c =
    let few = syncs_few c.set_len-total.result (entries_in c.args.set.now) (g.D.Disk.syncs c.args.disk.now)
    (g.D.Disk.syncs c.write_days.new.disk) c.set_len-total.ensures c.write_days.ensures.syncs in
    omega (arith, few, c.write_mixed.ensures.syncs)
