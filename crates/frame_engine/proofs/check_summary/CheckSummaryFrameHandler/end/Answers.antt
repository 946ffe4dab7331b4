use Rattle.std.proofs.Common.{refl}
use Rattle.std.proofs.lemmas.Result.{on_ok_weaker}
use Rattle.driver.specs.Effects.{done_of}
use Rattle.frame_engine.specs.Summaries.{noted_text, summary_text}
use Rattle.frame_engine.proofs.HandlingLemmas.{adds_note}
use Rattle.frame_engine.proofs.check_summary.CheckSummaryFrameHandler.end.Goals as goal

pub returns-clause-ok : goal.returns-clause-ok
returns-clause-ok c =
    on_ok_weaker c.put_summary.result
    (λ e first frames stands. (
      noted_text (summary_text c.args.self.now.tally),
      (c.args.self.now.tally, stands.1, refl),
      adds_note (done_of c.args.effects.now) _ (summary_text c.args.self.now.tally) refl refl e,
    ))
    c.put_summary.ensures.ok
