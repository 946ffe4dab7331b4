use Rattle.store_statistics.proofs.Listing.{sums_puts}
use Rattle.store_statistics.proofs.lines.put_sums.Goals as goal

pub returns : goal.returns
returns c =
    sums_puts c.args.sum.now c.args.out.now.items c.put_front.new.out.items c.put.new.out.items c.put.result
    c.in_ok-put_front.ensures c.put.ensures
