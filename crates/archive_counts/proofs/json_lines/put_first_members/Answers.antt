use Rattle.archive_counts.proofs.Objects.{front_json}
use Rattle.archive_counts.proofs.json_lines.put_first_members.Goals as goal

pub returns : goal.returns
returns c =
    front_json c.args.row.now.tally c.args.out.now.items c.put.new.out.items c.put_number.new.out.items
    c.put-2.new.out.items c.put_number-2.new.out.items c.put-3.new.out.items c.put_time.new.out.items
    c.put-4.new.out.items c.put_time-2.new.out.items c.put_time-2.result
    c.in_ok-put.ensures c.in_ok-put_number.ensures c.in_ok-put-2.ensures c.in_ok-put_number-2.ensures
    c.in_ok-put-3.ensures c.in_ok-put_time.ensures c.in_ok-put-4.ensures c.put_time-2.ensures
