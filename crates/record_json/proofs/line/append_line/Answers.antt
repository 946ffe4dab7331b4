use Rattle.record_json.proofs.WholeLines.{parts_put}
use Rattle.record_json.proofs.line.append_line.Goals as goal

pub returns : goal.returns
returns c =
    parts_put c.args.parts.now c.args.out.now.items c.put_priority.new.out.items c.put_time.new.out.items
    c.put_words.new.out.items c.put_data_member.new.out.items c.put_message.new.out.items c.put_message.result
    c.in_ok-put_priority.ensures c.in_ok-put_time.ensures c.in_ok-put_words.ensures c.in_ok-put_data_member.ensures
    c.put_message.ensures
