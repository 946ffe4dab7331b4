use Rattle.archive_counts.proofs.Texts.{line_puts}
use Rattle.archive_counts.proofs.line.put_row.Goals as goal

pub returns : goal.returns
returns c =
    let t = c.args.row.now.tally in
    line_puts t.records t.octets t.first t.last c.args.row.now.words.items c.args.out.now.items c.put_front.new.out.items
    c.put.new.out.items c.put-2.new.out.items c.put-2.result c.in_ok-put_front.ensures
    (rw c.deref.ensures.value at c.in_ok-put.ensures) c.put-2.ensures
