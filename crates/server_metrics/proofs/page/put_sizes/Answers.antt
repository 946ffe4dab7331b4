use Rattle.server_metrics.specs.Pages.{sizes_text}
use Rattle.server_metrics.proofs.Appended.{behind}
use Rattle.server_metrics.proofs.page.put_sizes.Goals as goal

pub returns : goal.returns
unfolding sizes_text
returns c =
    behind c.put_gauge-3.result c.args.out.now.items _ _ _ _ c.in_ok-put_gauge.ensures
    (behind c.put_gauge-3.result c.put_gauge.new.out.items _ _ _ _ c.in_ok-put_gauge-2.ensures
    (rw c.flag_number.ensures at c.put_gauge-3.ensures))
