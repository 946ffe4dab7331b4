use Rattle.server_metrics.specs.Pages.{short_buckets_text}
use Rattle.server_metrics.proofs.Appended.{behind}
use Rattle.server_metrics.proofs.page.put_short_buckets.Goals as goal

pub returns : goal.returns
unfolding short_buckets_text
returns c =
    behind c.put_bucket-7.result c.args.out.now.items _ _ _ _ c.in_ok-put_bucket.ensures
    (behind c.put_bucket-7.result c.put_bucket.new.out.items _ _ _ _ c.in_ok-put_bucket-2.ensures
    (behind c.put_bucket-7.result c.put_bucket-2.new.out.items _ _ _ _ c.in_ok-put_bucket-3.ensures
    (behind c.put_bucket-7.result c.put_bucket-3.new.out.items _ _ _ _ c.in_ok-put_bucket-4.ensures
    (behind c.put_bucket-7.result c.put_bucket-4.new.out.items _ _ _ _ c.in_ok-put_bucket-5.ensures
    (behind c.put_bucket-7.result c.put_bucket-5.new.out.items _ _ _ _ c.in_ok-put_bucket-6.ensures
    c.put_bucket-7.ensures)))))
