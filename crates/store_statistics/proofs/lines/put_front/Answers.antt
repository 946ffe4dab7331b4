use Rattle.archive_counts.proofs.Texts.{front_puts}
use Rattle.store_statistics.proofs.lines.put_front.Goals as goal

pub returns : goal.returns
returns c =
    let f = c.args.figures.now in
    front_puts f.tally.records f.octets f.tally.first f.tally.last c.args.out.now.items c.put_number.new.out.items
    c.put.new.out.items c.put_number-2.new.out.items c.put-2.new.out.items c.put_time.new.out.items
    c.put-3.new.out.items c.put_time-2.new.out.items c.put_time-2.result c.in_ok-put_number.ensures c.in_ok-put.ensures
    c.in_ok-put_number-2.ensures c.in_ok-put-2.ensures c.in_ok-put_time.ensures c.in_ok-put-3.ensures
    c.put_time-2.ensures
