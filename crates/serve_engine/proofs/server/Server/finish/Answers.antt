use Rattle.std.proofs.Common.{◌∙◌, arith, subst, sym}
use Rattle.serve_engine.specs.Intakes.{IsCommitted, StandsBy}
use Rattle.serve_engine.proofs.Turns.{ended_committed}
use Rattle.serve_engine.proofs.Counted.{commit_behind}
use Rattle.serve_engine.proofs.Told.{few_more, few_then}
use Rattle.serve_engine.proofs.server.Server.finish.Goals as goal

pub returns-in-On-clause-served : goal.returns-in-On-clause-served
returns-in-On-clause-served g c k first before at =
    let d = rw c.in-On.is at (c.commit.ensures.served k first before at) in
    let same = c.end_with.ensures.same in (
      d.0,
      subst (λ i. StandsBy (g.S.Store.entries) (g.K.Keeping.stands) i d.0 first before) (sym same) d.1,
      d.2,
      rw c.end_with.ensures.full (ended_committed _ _ _ _ c.end_with.ensures.turn (λ room.
          subst (λ i. IsCommitted (g.S.Store.entries) i d.0) (sym same) (d.3 room))),
    )

pub returns-in_default-clause-served : goal.returns-in_default-clause-served
returns-in_default-clause-served g c = c.commit.ensures.served

pub returns-in-On-clause-kept : goal.returns-in-On-clause-kept
returns-in-On-clause-kept g c = (
  (
    c.end_with.ensures.kept.0.0 ∙ c.commit.ensures.kept.0.0,
    omega (arith, c.end_with.ensures.kept.0.1, c.commit.ensures.kept.0.1),
  ),
  commit_behind c.args.self.now.report.counts c.commit.new.self.report.counts c.end_with.new.self.report.counts
      c.commit.ensures.kept.1 c.end_with.ensures.kept.1,
)

pub returns-in_default-clause-kept : goal.returns-in_default-clause-kept
returns-in_default-clause-kept g c = c.commit.ensures.kept

pub returns-in-On-clause-notes : goal.returns-in-On-clause-notes
returns-in-On-clause-notes g c = few_then 1 1 _ _ _ c.commit.ensures.notes c.end_with.ensures.notes

pub returns-in_default-clause-notes : goal.returns-in_default-clause-notes
returns-in_default-clause-notes g c = few_more 1 2 _ _ (omega arith) c.commit.ensures.notes
