use Rattle.std.proofs.Common.{◌≡◌, arith, false, ap, inl, inr, subst, sym, ◌∙◌}
use Rattle.serve_engine.specs.declared.pace.Pace.{Pace}
use Rattle.syslog_collect.specs.Collectors.{store_of}
use Rattle.serve_engine.specs.Intakes.{IsCommitted, StandsBy}
use Rattle.serve_engine.proofs.Turns.{unless_map}
use Rattle.serve_engine.proofs.Counted.{commit_behind, dropped_twice}
use Rattle.serve_engine.proofs.Told.{few_more, few_then}
use Rattle.serve_engine.specs.Paces.{PaysFor}
use Rattle.serve_engine.proofs.server.Server.tick.Goals as goal

pub returns-in-On-clause-served : goal.returns-in-On-clause-served
returns-in-On-clause-served g c k first before at =
    let d = rw c.in-On.is at (c.commit.ensures.served k first before at) in
    let same = c.count_time.ensures.same in (
      d.0,
      c.finish_tick.ensures.stands d.0 first before
          (subst (λ i. StandsBy (g.S.Store.entries) (g.K.Keeping.stands) i d.0 first before) (sym same) d.1),
      d.2,
      unless_map c.finish_tick.result c.finish_tick.new.self.full (c.count_time.new.self.full ≡ false)
          (IsCommitted (g.S.Store.entries) c.finish_tick.new.self.intake d.0) c.finish_tick.ensures.full (λ room.
          let was = d.3 (sym c.count_time.ensures.full ∙ room) in
          record {
            fresh = ap (λ x. g.S.Store.entries (store_of x))
                (c.finish_tick.ensures.collector ∙ ap (λ i. i.collector) same) ∙ was.fresh;
            committed = was.committed;
          }),
    )

pub returns-in_default-clause-served : goal.returns-in_default-clause-served
returns-in_default-clause-served g c = c.commit.ensures.served

pub returns-in-On-clause-kept : goal.returns-in-On-clause-kept
returns-in-On-clause-kept g c = (
  (
    c.finish_tick.ensures.kept.0.0 ∙ c.count_time.ensures.kept.0.0 ∙ c.commit.ensures.kept.0.0,
    omega (arith, c.finish_tick.ensures.kept.0.1, c.count_time.ensures.kept.0.1, c.commit.ensures.kept.0.1),
  ),
  commit_behind c.args.self.now.report.counts c.commit.new.self.report.counts c.finish_tick.new.self.report.counts
      c.commit.ensures.kept.1
      (dropped_twice c.commit.new.self.report.counts c.count_time.new.self.report.counts
      c.finish_tick.new.self.report.counts c.count_time.ensures.kept.1 c.finish_tick.ensures.kept.1),
)

pub returns-in_default-clause-kept : goal.returns-in_default-clause-kept
returns-in_default-clause-kept g c = c.commit.ensures.kept

pub returns-in-On-clause-notes : goal.returns-in-On-clause-notes
returns-in-On-clause-notes g c =
    few_then 2 2 _ _ _ (few_then 1 1 _ _ _ c.commit.ensures.notes c.count_time.ensures.notes)
    c.finish_tick.ensures.notes

pub returns-in-On-clause-pace : goal.returns-in-On-clause-pace
returns-in-On-clause-pace g c =
    inr (subst (λ (p : Pace). PaysFor p c.finish_tick.new.self.report.pace c.args.millis) c.commit.ensures.pace
    (subst (λ (p : Pace). PaysFor c.commit.new.self.report.pace p c.args.millis)
    (sym c.finish_tick.ensures.pace) c.count_time.ensures.pace))

pub returns-in_default-clause-notes : goal.returns-in_default-clause-notes
returns-in_default-clause-notes g c = few_more 1 4 _ _ (omega arith) c.commit.ensures.notes

pub returns-in_default-clause-pace : goal.returns-in_default-clause-pace
returns-in_default-clause-pace g c = inl c.commit.ensures.pace
