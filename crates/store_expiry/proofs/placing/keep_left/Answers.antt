use Rattle.store_expiry.proofs.Keeping.{keeps_sheds, keeps_sound, keeps_spared, keeps_stay}
use Rattle.std.proofs.Common.{refl}
use Rattle.store_upkeep.specs.Compaction.{shown}
use Rattle.store_expiry.proofs.Causing.{cause_on}
use Rattle.store_expiry.proofs.Keeping.{draft_aside, found_expired}
use Rattle.store_expiry.proofs.Shedding.{aside_sheds, aside_stays, expired_spared, same_sheds, stays_then, then_sheds}
use Rattle.store_expiry.proofs.placing.keep_left.Goals as goal

pub returns-then-not-found-clause-spared : goal.returns-then-not-found-clause-spared
returns-then-not-found-clause-spared g c t sound f =
    expired_spared c.args.expired.now (g.D.Disk.state c.args.disk.now) c.args.name.now c.args.found.now.period
    f.surveyed.entries f.surveyed.is_file (f.surveyed.is.tally.some f.some) f.dated
    (f.surveyed.is.tally.all c.if-not-found.true)

pub returns-then-not-found-clause-sheds : goal.returns-then-not-found-clause-sheds
returns-then-not-found-clause-sheds g c t sound f = same_sheds c.args.expired.now (g.D.Disk.state c.args.disk.now)

pub returns-in_err-rest-clause-sheds : goal.returns-in_err-rest-clause-sheds
returns-in_err-rest-clause-sheds g c t sound f =
    aside_sheds c.args.expired.now (g.D.Disk.state c.args.disk.now) (g.D.Disk.state c.prepare_rest.new.disk)
    (c.prepare_rest.ensures.others t)

pub returns-in_err-rest-clause-stay : goal.returns-in_err-rest-clause-stay
returns-in_err-rest-clause-stay g c t sound f =
    aside_stays c.args.expired.now (g.D.Disk.state c.args.disk.now) (g.D.Disk.state c.prepare_rest.new.disk)
    (c.prepare_rest.ensures.others t)

pub returns-in-Ok-clause-spared : goal.returns-in-Ok-clause-spared
returns-in-Ok-clause-spared g c t sound f =
    let told = c.place.ensures.told t in
    keeps_spared c.args.expired.now (g.D.Disk.state c.args.disk.now) (g.D.Disk.state c.prepare_rest.new.disk)
    (g.D.Disk.state c.place.new.disk) c.args.name.now c.in_ok-rest.rest.draft c.in_ok-rest.rest.name c.args.found.now f
    (c.prepare_rest.ensures.others told)
    (c.in_ok-rest.ensures.ready told sound f.surveyed.entries f.surveyed.is_file) (c.place.ensures.places t)
    (c.in-Ok.ensures.placed t)

pub returns-in-Ok-clause-sound : goal.returns-in-Ok-clause-sound
returns-in-Ok-clause-sound g c t sound f =
    let told = c.place.ensures.told t in
    keeps_sound c.args.expired.now (g.D.Disk.state c.args.disk.now) (g.D.Disk.state c.prepare_rest.new.disk)
    (g.D.Disk.state c.place.new.disk) c.args.name.now c.in_ok-rest.rest.draft c.in_ok-rest.rest.name c.args.found.now f
    (c.prepare_rest.ensures.others told)
    (c.in_ok-rest.ensures.ready told sound f.surveyed.entries f.surveyed.is_file) (c.place.ensures.places t)
    (c.in-Ok.ensures.placed t)

pub returns-in-Ok-clause-sheds : goal.returns-in-Ok-clause-sheds
returns-in-Ok-clause-sheds g c t sound f =
    let told = c.place.ensures.told t in
    keeps_sheds c.args.expired.now (g.D.Disk.state c.args.disk.now) (g.D.Disk.state c.prepare_rest.new.disk)
    (g.D.Disk.state c.place.new.disk) c.args.name.now c.in_ok-rest.rest.draft c.in_ok-rest.rest.name c.args.found.now f
    (c.prepare_rest.ensures.others told)
    (c.in_ok-rest.ensures.ready told sound f.surveyed.entries f.surveyed.is_file) (c.place.ensures.places t)

pub returns-in-Ok-clause-stay : goal.returns-in-Ok-clause-stay
returns-in-Ok-clause-stay g c t sound f =
    let told = c.place.ensures.told t in
    keeps_stay c.args.expired.now (g.D.Disk.state c.args.disk.now) (g.D.Disk.state c.prepare_rest.new.disk)
    (g.D.Disk.state c.place.new.disk) c.args.name.now c.in_ok-rest.rest.draft c.in_ok-rest.rest.name c.args.found.now f
    (c.prepare_rest.ensures.others told)
    (c.in_ok-rest.ensures.ready told sound f.surveyed.entries f.surveyed.is_file) (c.place.ensures.places t)

pub returns-clause-sheds : goal.returns-clause-sheds
returns-clause-sheds g c t sound f =
    let x = c.args.expired.now in
    let zero = g.D.Disk.state c.args.disk.now in
    let one = g.D.Disk.state c.prepare_rest.new.disk in
    let two = g.D.Disk.state c.place.new.disk in
    let three = g.D.Disk.state c.discard.new.disk in
    let told = c.discard.ensures.told t in
    let then = c.place.ensures.told told in
    let ready = c.in_ok-rest.ensures.ready then sound f.surveyed.entries f.surveyed.is_file in
    then_sheds x zero two three
    (keeps_sheds x zero one two c.args.name.now c.in_ok-rest.rest.draft c.in_ok-rest.rest.name c.args.found.now f
    (c.prepare_rest.ensures.others then) ready (c.place.ensures.places told))
    (aside_sheds x two three (draft_aside two three c.in_ok-rest.rest.draft ready.is_draft (c.discard.ensures.others t)))

pub returns-clause-stay : goal.returns-clause-stay
returns-clause-stay g c t sound f period name segment =
    let x = c.args.expired.now in
    let zero = g.D.Disk.state c.args.disk.now in
    let one = g.D.Disk.state c.prepare_rest.new.disk in
    let two = g.D.Disk.state c.place.new.disk in
    let three = g.D.Disk.state c.discard.new.disk in
    let told = c.discard.ensures.told t in
    let then = c.place.ensures.told told in
    let ready = c.in_ok-rest.ensures.ready then sound f.surveyed.entries f.surveyed.is_file in
    stays_then x zero two three name
    (keeps_stay x zero one two c.args.name.now c.in_ok-rest.rest.draft c.in_ok-rest.rest.name c.args.found.now f
    (c.prepare_rest.ensures.others then) ready (c.place.ensures.places told) period name segment)
    (aside_stays x two three (draft_aside two three c.in_ok-rest.rest.draft ready.is_draft (c.discard.ensures.others t))
    period name segment)

pub returns-in_err-rest-clause-cause : goal.returns-in_err-rest-clause-cause
returns-in_err-rest-clause-cause g c t sound f n =
    let files = shown (g.D.Disk.state c.prepare_rest.new.disk) in
    cause_on c.args.expired.now files n n n c.from_residual.result c.in_err-rest.field-0.0 c.from_residual.ensures.1 refl
    (c.in_err-rest.ensures.cause t sound f.surveyed.entries (found_expired c.args.expired.now _ _ _ f) n)
