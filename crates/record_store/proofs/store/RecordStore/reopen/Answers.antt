use Rattle.std.proofs.Common.{◌≡◌, false, rules, refl}
use Rattle.record_store.proofs.Opened.{given_within}
use Rattle.record_store.proofs.Successions.{broken_stands, reopened_stands}
use Rattle.record_store.proofs.store.RecordStore.reopen.Goals as goal

pub returns-in-Err-clause-stands : goal.returns-in-Err-clause-stands
returns-in-Err-clause-stands g c tells sound sets stands =
    let zero = g.D.Disk.state c.args.disk.now in
    let new = g.D.Disk.state c.open.new.disk in
    broken_stands c.args.self.now _ zero new sets stands refl refl
    (c.open.ensures.any_moment tells sound sets.committed sets.received stands.keeps)
    (λ still. c.open.ensures.shows tells sound sets.since (stands.shows sound))
    (λ still. c.open.ensures.older tells sound sets.since (stands.older sound))

pub returns-in-Ok-clause-stands : goal.returns-in-Ok-clause-stands
returns-in-Ok-clause-stands g c tells sound sets stands =
    let zero = g.D.Disk.state c.args.disk.now in
    let new = g.D.Disk.state c.open.new.disk in
    let opened = c.in-Ok.opened in
    let whole : opened.broken ≡ false = search rules in
    reopened_stands c.args.self.now opened _ zero new sets stands
    (c.in-Ok.ensures.opened tells sound sets.committed sets.received sets.since stands.keeps stands.within
    (stands.older sound)
    (λ e has. given_within zero opened.number c.in-Ok._batches.items sets.since e (stands.shows sound)
    (c.in-Ok.ensures.newest tells sound) has))
    whole refl refl refl
