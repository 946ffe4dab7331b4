use Rattle.std.proofs.Common.{arith, ap, subst, sym, ◌∙◌}
use Rattle.serve_engine.specs.Intakes.{StandsBy}
use Rattle.serve_engine.proofs.Counted.{dropped_twice}
use Rattle.serve_engine.proofs.Turns.{told_full}
use Rattle.serve_engine.proofs.Told.{few_more, few_then}
use Rattle.serve_engine.proofs.server.Server.finish_tick.Goals as goal

pub returns-in-On-clause-stands : goal.returns-in-On-clause-stands
returns-in-On-clause-stands g c k first before at =
    subst (λ i. StandsBy (g.S.Store.entries) (g.K.Keeping.stands) i k first before) (sym c.tell_room.ensures.same)
    (c.checkpoint.ensures.stands k first before at)

pub returns-in-On-clause-kept : goal.returns-in-On-clause-kept
returns-in-On-clause-kept g c = (
  (
    c.tell_room.ensures.kept.0.0 ∙ c.checkpoint.ensures.kept.0.0,
    omega (arith, c.tell_room.ensures.kept.0.1, c.checkpoint.ensures.kept.0.1),
  ),
  dropped_twice c.args.self.now.report.counts c.checkpoint.new.self.report.counts c.tell_room.new.self.report.counts
      c.checkpoint.ensures.kept.1 c.tell_room.ensures.kept.1,
)

pub returns-in-On-clause-told : goal.returns-in-On-clause-told
returns-in-On-clause-told g c was on =
    told_full c.tell_room.new.self.full c.checkpoint.new.self.told c.tell_room.new.self.told
    (λ full. (c.checkpoint.ensures.told was).1 c.in-On.is (sym c.tell_room.ensures.full ∙ full))
    (λ room. c.tell_room.ensures.told (sym c.tell_room.ensures.full ∙ room))
    (λ full. ap (λ s. s.told) (c.tell_room.ensures.waits (sym c.tell_room.ensures.full ∙ full)))

pub returns-in-On-clause-notes : goal.returns-in-On-clause-notes
returns-in-On-clause-notes g c = few_then 1 1 _ _ _ c.checkpoint.ensures.notes c.tell_room.ensures.notes

pub returns-in_default-clause-notes : goal.returns-in_default-clause-notes
returns-in_default-clause-notes g c = few_more 1 2 _ _ (omega arith) c.checkpoint.ensures.notes
