use Rattle.server_metrics.specs.Pages.{bucket_sample}
use Rattle.server_metrics.proofs.Appended.{behind}
use Rattle.server_metrics.proofs.page.put_bucket.Goals as goal

pub returns : goal.returns
unfolding bucket_sample
returns c =
    behind c.put_value.result c.args.out.now.items _ _ _ _ c.in_ok-put.ensures
    (behind c.put_value.result c.put.new.out.items _ _ _ _ c.in_ok-put_label.ensures
    (behind c.put_value.result c.put_label.new.out.items _ _ _ _ c.in_ok-put-2.ensures
    c.put_value.ensures))
