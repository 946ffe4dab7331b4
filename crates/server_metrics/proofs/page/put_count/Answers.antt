use Rattle.server_metrics.specs.Pages.{count_sample}
use Rattle.server_metrics.proofs.Appended.{behind}
use Rattle.server_metrics.proofs.page.put_count.Goals as goal

pub returns : goal.returns
unfolding count_sample
returns c =
    behind c.put_value.result c.args.out.now.items _ _ _ _ c.in_ok-put.ensures
    c.put_value.ensures
