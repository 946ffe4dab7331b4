use Rattle.std.proofs.lemmas.Result.{on_ok_weaker}
use Rattle.frame_engine.proofs.check.CheckFrameHandler.report.Goals as goal

pub returns-clause-ok : goal.returns-clause-ok
returns-clause-ok c = on_ok_weaker c.refuse.result (λ e first frames same. e) c.refuse.ensures.ok
