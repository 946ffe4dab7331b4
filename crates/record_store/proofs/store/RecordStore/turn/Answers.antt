use Rattle.std.proofs.Common.{◌≡◌, [], false, rules, refl}
use Rattle.record_store.proofs.Successions.{broken_stands, turned_stands}
use Rattle.record_store.proofs.store.RecordStore.turn.Goals as goal

pub returns-in-Ok-clause-turned : goal.returns-in-Ok-clause-turned
returns-in-Ok-clause-turned g c tells sets stands apart =
    let store = c.args.self.now in
    let new = g.D.Disk.state c.succeed.new.disk in
    let whole : store.broken ≡ false = search rules in
    let none : c.clear.new.self.items ≡ [] = search rules in
    let ready = stands.ready whole in
    let older = stands.older ready.stands.sound in
    turned_stands store _ new sets
    (c.succeed.ensures.any_moment tells store sets.since ready refl older apart sets.committed sets.received stands.keeps)
    (c.succeed.ensures.apart tells sets.since apart) (c.succeed.ensures.older tells store sets.since ready refl older) none
    (c.in-Ok.ensures.ready tells store _ sets.since ready refl refl refl)

pub returns-in-Err-clause-err : goal.returns-in-Err-clause-err
returns-in-Err-clause-err g c tells sets stands apart =
    let store = c.args.self.now in
    let new = g.D.Disk.state c.succeed.new.disk in
    let whole : store.broken ≡ false = search rules in
    let ready = stands.ready whole in
    let older = stands.older ready.stands.sound in
    broken_stands store _ (g.D.Disk.state c.args.disk.now) new sets stands refl refl
    (c.succeed.ensures.any_moment tells store sets.since ready refl older apart sets.committed sets.received stands.keeps)
    (λ sound. c.succeed.ensures.shows tells store sets.since ready refl)
    (λ sound. c.succeed.ensures.older tells store sets.since ready refl older)

pub returns-in-Err-clause-cause : goal.returns-in-Err-clause-cause
returns-in-Err-clause-cause g c =
    let whole : c.args.self.now.broken ≡ false = search rules in
    c.in-Err.ensures.cause c.args.self.now whole refl
