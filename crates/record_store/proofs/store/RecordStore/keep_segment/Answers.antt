use Rattle.std.proofs.Common.{refl}
use Rattle.record_store.proofs.Drafted.{beside_stands, others_journals}
use Rattle.record_store.proofs.store.RecordStore.keep_segment.Goals as goal

pub returns-in-Err-clause-stands : goal.returns-in-Err-clause-stands
returns-in-Err-clause-stands g c tells es sets of stands =
    beside_stands (g.D.Disk.state c.args.disk.now) (g.D.Disk.state c.keep.new.disk) c.args.self.now _ sets stands
    (others_journals (g.D.Disk.state c.args.disk.now) (g.D.Disk.state c.keep.new.disk) c.args.draft.name of.apart
    (c.keep.ensures.others tells es sets.received of)) (c.keep.ensures.still_held tells es sets.received of)
    (c.keep.ensures.any_moment tells es sets.committed sets.received of stands.keeps) refl refl refl
    (λ whole. absurd (cc whole)) (λ sound. of.drafts.sound)

pub returns-in-Ok-clause-stands : goal.returns-in-Ok-clause-stands
returns-in-Ok-clause-stands g c tells es sets of stands =
    beside_stands (g.D.Disk.state c.args.disk.now) (g.D.Disk.state c.keep.new.disk) c.args.self.now _ sets stands
    (others_journals (g.D.Disk.state c.args.disk.now) (g.D.Disk.state c.keep.new.disk) c.args.draft.name of.apart
    (c.keep.ensures.others tells es sets.received of)) (c.keep.ensures.still_held tells es sets.received of)
    (c.keep.ensures.any_moment tells es sets.committed sets.received of stands.keeps) refl refl refl
    (λ whole. (whole, (c.in-Ok.ensures.sound tells of.text of.drafts of.apart).sound)) (λ sound. of.drafts.sound)
