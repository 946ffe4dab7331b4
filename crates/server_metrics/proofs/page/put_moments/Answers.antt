use Rattle.server_metrics.specs.Pages.{moments_text}
use Rattle.server_metrics.proofs.Appended.{behind}
use Rattle.server_metrics.proofs.page.put_moments.Goals as goal

pub returns : goal.returns
unfolding moments_text
returns c =
    behind c.put_gauge-2.result c.args.out.now.items _ _ _ _ c.in_ok-put_gauge.ensures
    c.put_gauge-2.ensures
