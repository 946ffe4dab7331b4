use Rattle.std.proofs.Common.{refl}
use Rattle.record_store.proofs.Drafted.{beside_stands}
use Rattle.record_store.proofs.store.RecordStore.add_segment.Goals as goal

pub returns-in-Err-clause-stands : goal.returns-in-Err-clause-stands
returns-in-Err-clause-stands g c tells es sets of stands =
    beside_stands (g.D.Disk.state c.args.disk.now) (g.D.Disk.state c.finish.new.disk) c.args.self.now _ sets stands
    (c.finish.ensures.journals tells of.apart) (c.finish.ensures.still_held tells es sets.received of)
    (c.finish.ensures.any_moment tells es sets.committed sets.received of stands.keeps) refl refl refl
    (λ whole. absurd (cc whole)) (λ sound. of.drafts.sound)

pub returns-in-Ok-clause-stands : goal.returns-in-Ok-clause-stands
returns-in-Ok-clause-stands g c tells es sets of stands =
    beside_stands (g.D.Disk.state c.args.disk.now) (g.D.Disk.state c.finish.new.disk) c.args.self.now _ sets stands
    (c.finish.ensures.journals tells of.apart) (c.finish.ensures.still_held tells es sets.received of)
    (c.finish.ensures.any_moment tells es sets.committed sets.received of stands.keeps) refl refl refl
    (λ whole. (whole, (c.in-Ok.ensures.finished tells of.text of.drafts of.apart).sound)) (λ sound. of.drafts.sound)

pub returns-in-Ok-clause-held : goal.returns-in-Ok-clause-held
returns-in-Ok-clause-held g c tells es received of =
    c.in-Ok.ensures.held tells es received of

pub returns-in-Ok-clause-still_held : goal.returns-in-Ok-clause-still_held
returns-in-Ok-clause-still_held g c tells es received of others holds =
    c.finish.ensures.still_held tells es received of others holds

pub returns-in-Err-clause-still_held : goal.returns-in-Err-clause-still_held
returns-in-Err-clause-still_held g c tells es received of others holds =
    c.finish.ensures.still_held tells es received of others holds
