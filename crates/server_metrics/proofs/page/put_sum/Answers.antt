use Rattle.server_metrics.specs.Pages.{sum_sample}
use Rattle.server_metrics.proofs.Appended.{behind}
use Rattle.server_metrics.proofs.page.put_sum.Goals as goal

pub returns : goal.returns
unfolding sum_sample
returns c =
    behind c.put-2.result c.args.out.now.items _ _ _ _ c.in_ok-put.ensures
    (behind c.put-2.result c.put.new.out.items _ _ _ _ c.in_ok-put_seconds.ensures
    c.put-2.ensures)
