use Rattle.archive_counts.proofs.Members.{object_puts}
use Rattle.archive_counts.proofs.json_lines.put_row.Goals as goal

pub returns : goal.returns
returns c =
    object_puts c.args.keys.now c.args.row.now c.args.out.now.items c.put_first_members.new.out.items
    c.put_members.new.out.items c.put.new.out.items c.put.result c.in_ok-put_first_members.ensures
    (rw c.deref.ensures.value at c.in_ok-put_members.ensures) c.put.ensures
