use Rattle.std.proofs.lemmas.Result.{on_ok_weaker}
use Rattle.colored_show.proofs.colored_show.ColoredShowFrameHandler.report.Goals as goal

pub returns-clause-ok : goal.returns-clause-ok
returns-clause-ok c = on_ok_weaker c.add_refusal.result (λ e first frames same. e) c.add_refusal.ensures.ok
