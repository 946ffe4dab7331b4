use Rattle.server_metrics.specs.Pages.{histogram_text}
use Rattle.server_metrics.proofs.Appended.{behind}
use Rattle.server_metrics.proofs.page.put_histogram.Goals as goal

pub returns : goal.returns
unfolding histogram_text
returns c =
    behind c.put_count.result c.args.out.now.items _ _ _ _ c.in_ok-put_head.ensures
    (behind c.put_count.result c.put_head.new.out.items _ _ _ _ c.in_ok-put_short_buckets.ensures
    (behind c.put_count.result c.put_short_buckets.new.out.items _ _ _ _ c.in_ok-put_long_buckets.ensures
    (behind c.put_count.result c.put_long_buckets.new.out.items _ _ _ _ c.in_ok-put_sum.ensures
    c.put_count.ensures)))
