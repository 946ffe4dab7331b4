use Rattle.store_statistics.proofs.Listing.{file_puts}
use Rattle.store_statistics.proofs.lines.put_file.Goals as goal

pub returns : goal.returns
returns c =
    file_puts c.args.file.now c.args.out.now.items c.put_front.new.out.items c.put.new.out.items c.put-2.new.out.items
    c.put-3.new.out.items c.put-3.result c.in_ok-put_front.ensures c.in_ok-put.ensures
    (rw c.as_octets.ensures.value at c.in_ok-put-2.ensures) c.put-3.ensures
