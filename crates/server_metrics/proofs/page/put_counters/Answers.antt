use Rattle.server_metrics.specs.Pages.{counters_text}
use Rattle.server_metrics.proofs.Appended.{behind}
use Rattle.server_metrics.proofs.page.put_counters.Goals as goal

pub returns : goal.returns
unfolding counters_text
returns c =
    behind c.put_counter-5.result c.args.out.now.items _ _ _ _ c.in_ok-put_counter.ensures
    (behind c.put_counter-5.result c.put_counter.new.out.items _ _ _ _ c.in_ok-put_counter-2.ensures
    (behind c.put_counter-5.result c.put_counter-2.new.out.items _ _ _ _ c.in_ok-put_counter-3.ensures
    (behind c.put_counter-5.result c.put_counter-3.new.out.items _ _ _ _ c.in_ok-put_counter-4.ensures
    c.put_counter-5.ensures)))
