use Rattle.archive_pages.specs.Paged.{entries_in}
use Rattle.journal.specs.Journals.{IsSound}
use Rattle.record_store.specs.Stores.{number_of}
use Rattle.record_store.specs.Turns.{turn_causes}
use Rattle.record_store.proofs.Causing.{cause_weaker}
use Rattle.record_store.proofs.Remaining.{grow_then}
use Rattle.record_store.proofs.Successions.{sheds_beside}
use Rattle.durable_store.specs.Causes.{StandsWith, turning_causes}
use Rattle.durable_store.specs.declared.draft.DraftName.TheVariants.{Checkpoint}
use Rattle.durable_store.specs.declared.fault.CheckpointFault.TheVariants.{Store}
use Rattle.durable_store.proofs.Daily.{not_broken, on_err, since_held, stands_beside, stood_sound}
use Rattle.durable_store.proofs.Failing.{keeping_less}
use Rattle.durable_store.proofs.Readable.{at_err}
use Rattle.durable_store.proofs.checkpoint.write_out.Goals as goal

pub returns-in-Err-clause-err : goal.returns-in-Err-clause-err
returns-in-Err-clause-err g c tells sets stands among since =
    let zero = g.D.Disk.state c.args.disk.now in
    let whole = not_broken c.args.store.now c.is_broken.result c.is_broken.ensures c.if-is_broken.false in
    let sound = (stands.ready whole).stands.sound in
    stands_beside zero (g.D.Disk.state c.write_segments.new.disk) c.break_off.new.self sets Checkpoint (entries_in c.args.set.now)
    (c.write_segments.ensures.gains tells sound) among (c.break_off.ensures.stands zero sets stands) sound
    (λ is. absurd (cc (c.break_off.ensures.broken, is)))

pub returns-in_err-turn-clause-err : goal.returns-in_err-turn-clause-err
returns-in_err-turn-clause-err g c = on_err c.from_residual.result (λ tells sets stands among since.
    let zero = g.D.Disk.state c.args.disk.now in
    let one = g.D.Disk.state c.write_segments.new.disk in
    let told = c.turn.ensures.told tells in
    let whole = not_broken c.args.store.now c.is_broken.result c.is_broken.ensures c.if-is_broken.false in
    let sound = (stands.ready whole).stands.sound in
    c.in_err-turn.ensures.err tells sets
    (stands_beside zero one c.args.store.now sets Checkpoint (entries_in c.args.set.now)
    (c.write_segments.ensures.gains told sound) among stands sound (λ is. c.in_default.ensures.sound told sound))
    (since_held one (entries_in c.args.set.now) sets.since (c.in_default.ensures.held told sound) since))

pub returns-clause-done : goal.returns-clause-done
returns-clause-done g c tells sets stands among since =
    let zero = g.D.Disk.state c.args.disk.now in
    let one = g.D.Disk.state c.write_segments.new.disk in
    let told = c.turn.ensures.told tells in
    let whole = not_broken c.args.store.now c.is_broken.result c.is_broken.ensures c.if-is_broken.false in
    let sound = (stands.ready whole).stands.sound in
    c.in_ok-turn.ensures.turned tells sets
    (stands_beside zero one c.args.store.now sets Checkpoint (entries_in c.args.set.now)
    (c.write_segments.ensures.gains told sound) among stands sound (λ is. c.in_default.ensures.sound told sound))
    (since_held one (entries_in c.args.set.now) sets.since (c.in_default.ensures.held told sound) since)

pub returns-in-Err-clause-cause : goal.returns-in-Err-clause-cause
returns-in-Err-clause-cause g c =
    let store = c.args.store.now in
    let zero = g.D.Disk.state c.args.disk.now in
    let all = entries_in c.args.set.now in
    let whole = not_broken store c.is_broken.result c.is_broken.ensures c.if-is_broken.false in
    keeping_less (g.D.Disk.tells c.write_segments.new.disk) (g.D.Disk.has_failed c.write_segments.new.disk)
    (IsSound zero) (StandsWith store zero all) (g.D.Disk.state c.write_segments.new.disk) c.in-Err.fault
    (λ tell with. stood_sound store zero all whole with) c.in-Err.ensures.cause

pub returns-in_err-turn-clause-cause : goal.returns-in_err-turn-clause-cause
returns-in_err-turn-clause-cause g c =
    let store = c.args.store.now in
    let zero = g.D.Disk.state c.args.disk.now in
    let one = g.D.Disk.state c.write_segments.new.disk in
    let all = entries_in c.args.set.now in
    let tells = g.D.Disk.tells c.turn.new.disk in
    let failed = g.D.Disk.has_failed c.turn.new.disk in
    let with = StandsWith store zero all in
    let fault = c.in_err-turn.field-0.0 in
    let whole = not_broken store c.is_broken.result c.is_broken.ensures c.if-is_broken.false in
    at_err c.from_residual.result (Store fault) _ c.from_residual.ensures.1
    (cause_weaker (turn_causes tells failed store one) (turning_causes tells failed with store)
    (λ is. is)
    (λ full. full)
    (λ other tell known.
    let told = c.turn.ensures.told tell in
    let sound = stood_sound store zero all whole known in
    other tell known.0
    (stands_beside zero one store known.0 Checkpoint all (c.write_segments.ensures.gains told sound) known.2 known.1 sound
    (λ is. c.in_default.ensures.sound told sound)))
    (λ long. long)
    (λ broken. broken)
    fault c.in_err-turn.ensures.cause)

pub returns-in-Err-clause-segments : goal.returns-in-Err-clause-segments
returns-in-Err-clause-segments g c tells with =
    let store = c.args.store.now in
    let whole = not_broken store c.is_broken.result c.is_broken.ensures c.if-is_broken.false in
    let beside = c.write_segments.ensures.segments tells
    (stood_sound store (g.D.Disk.state c.args.disk.now) (entries_in c.args.set.now) whole with) in
    beside.grow

pub returns-in_err-turn-clause-segments : goal.returns-in_err-turn-clause-segments
returns-in_err-turn-clause-segments g c tells with =
    let store = c.args.store.now in
    let zero = g.D.Disk.state c.args.disk.now in
    let whole = not_broken store c.is_broken.result c.is_broken.ensures c.if-is_broken.false in
    let beside = c.write_segments.ensures.segments (c.turn.ensures.told tells)
    (stood_sound store zero (entries_in c.args.set.now) whole with) in
    grow_then 65 0 zero (g.D.Disk.state c.write_segments.new.disk) (g.D.Disk.state c.turn.new.disk)
    beside.grow (c.turn.ensures.segments tells)

pub returns-clause-segments : goal.returns-clause-segments
returns-clause-segments g c tells with =
    let store = c.args.store.now in
    let zero = g.D.Disk.state c.args.disk.now in
    let whole = not_broken store c.is_broken.result c.is_broken.ensures c.if-is_broken.false in
    let beside = c.write_segments.ensures.segments (c.turn.ensures.told tells)
    (stood_sound store zero (entries_in c.args.set.now) whole with) in
    grow_then 65 0 zero (g.D.Disk.state c.write_segments.new.disk) (g.D.Disk.state c.turn.new.disk)
    beside.grow (c.turn.ensures.segments tells)

pub returns-clause-sheds : goal.returns-clause-sheds
returns-clause-sheds g c tells with =
    let store = c.args.store.now in
    let zero = g.D.Disk.state c.args.disk.now in
    let one = g.D.Disk.state c.write_segments.new.disk in
    let all = entries_in c.args.set.now in
    let told = c.turn.ensures.told tells in
    let whole = not_broken store c.is_broken.result c.is_broken.ensures c.if-is_broken.false in
    let sound = stood_sound store zero all whole with in
    let beside = c.write_segments.ensures.segments told sound in
    let stood = with.1.ready whole in
    sheds_beside zero one (g.D.Disk.state c.turn.new.disk) (number_of store) stood.small beside.journals
    (c.in_ok-turn.ensures.sheds tells (c.in_default.ensures.sound told sound))
