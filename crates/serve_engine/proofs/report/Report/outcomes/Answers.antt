use Rattle.std.proofs.Common.{List, refl, subst, sym, ap, take, add-one, ◌∙◌}
use Rattle.std.proofs.Math.Seq.{take-suc}
use Rattle.syslog_collect.specs.declared.outcome.Outcome.{Outcome}
use Rattle.syslog_collect.specs.declared.outcome.Outcome.TheVariants.{New}
use Rattle.serve_engine.specs.Notes.{TellsOf, line_counts, told_in}
use Rattle.serve_engine.specs.Peers.{peer_of}
use Rattle.serve_engine.specs.Refusals.{KeepsEach, kept_in}
use Rattle.serve_engine.proofs.Refused.{each_more}
use Rattle.serve_engine.proofs.Told.{counts_more, of_none, of_then}
use Rattle.serve_engine.proofs.report.Report.outcomes.Goals as goal

pub loop-outcome-init : goal.loop-outcome-init
loop-outcome-init g c = record { kept = refl; told = of_none _ _ _ _ refl }

pub loop-outcome-preserved : goal.loop-outcome-preserved
loop-outcome-preserved g c =
    let more = ap (λ n. take n c.args.outcomes.now) (add-one c.loop-outcome.outcome-index)
    ∙ take-suc c.args.outcomes.now c.loop-outcome.outcome-index New c.loop-outcome-test.true in
    record {
      kept = subst (λ (os : List Outcome). KeepsEach c.args.datagram.now os (kept_in (g.R.Output.state) c.args.self.now)
          (kept_in (g.R.Output.state) c.outcome.new.self)) (sym more)
          (each_more c.args.datagram.now (take c.loop-outcome.outcome-index c.args.outcomes.now) _ _ _ _
          c.loop-outcome.invariant.kept c.outcome.ensures.kept);
      told = subst (λ n. TellsOf (peer_of c.args.way) n (told_in (g.N.Output.state) c.args.self.now)
          (told_in (g.N.Output.state) c.outcome.new.self))
          (sym (ap line_counts more ∙ counts_more (take c.loop-outcome.outcome-index c.args.outcomes.now) _))
          (of_then _ _ _ _ _ _ c.loop-outcome.invariant.told c.outcome.ensures.told);
    }
