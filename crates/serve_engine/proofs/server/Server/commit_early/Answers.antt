use Rattle.std.proofs.Common.{◌≡◌, arith, false, ap, ◌∙◌}
use Rattle.syslog_collect.specs.Collectors.{store_of}
use Rattle.serve_engine.specs.Intakes.{IsCommitted}
use Rattle.serve_engine.proofs.Turns.{unless_map}
use Rattle.serve_engine.proofs.Counted.{commit_behind}
use Rattle.serve_engine.proofs.Told.{few_more, few_then}
use Rattle.serve_engine.proofs.server.Server.commit_early.Goals as goal

pub returns-in-On-clause-served : goal.returns-in-On-clause-served
returns-in-On-clause-served g c k first before at =
    let d = rw c.in-On.is at (c.commit.ensures.served k first before at) in (
      d.0,
      c.finish_tick.ensures.stands d.0 first before d.1,
      d.2,
      unless_map c.finish_tick.result c.finish_tick.new.self.full (c.commit.new.self.full ≡ false)
          (IsCommitted (g.S.Store.entries) c.finish_tick.new.self.intake d.0) c.finish_tick.ensures.full (λ room.
          let was = d.3 room in
          record {
            fresh = ap (λ x. g.S.Store.entries (store_of x)) c.finish_tick.ensures.collector ∙ was.fresh;
            committed = was.committed;
          }),
    )

pub returns-in_default-clause-served : goal.returns-in_default-clause-served
returns-in_default-clause-served g c = c.commit.ensures.served

pub returns-in-On-clause-kept : goal.returns-in-On-clause-kept
returns-in-On-clause-kept g c = (
  (
    c.finish_tick.ensures.kept.0.0 ∙ c.commit.ensures.kept.0.0,
    omega (arith, c.finish_tick.ensures.kept.0.1, c.commit.ensures.kept.0.1),
  ),
  commit_behind c.args.self.now.report.counts c.commit.new.self.report.counts c.finish_tick.new.self.report.counts
      c.commit.ensures.kept.1 c.finish_tick.ensures.kept.1,
)

pub returns-in_default-clause-kept : goal.returns-in_default-clause-kept
returns-in_default-clause-kept g c = c.commit.ensures.kept

pub returns-in-On-clause-notes : goal.returns-in-On-clause-notes
returns-in-On-clause-notes g c = few_then 1 2 _ _ _ c.commit.ensures.notes c.finish_tick.ensures.notes

pub returns-in_default-clause-notes : goal.returns-in_default-clause-notes
returns-in_default-clause-notes g c = few_more 1 3 _ _ (omega arith) c.commit.ensures.notes
