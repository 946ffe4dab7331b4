use Rattle.record_json.proofs.WholeLines.{data_member}
use Rattle.record_json.proofs.line.put_data_member.Goals as goal

pub returns : goal.returns
returns c = data_member c.args.«structured_data».now c.args.out.now.items c.put.new.out.items
    c.put_data.new.out.items c.put_data.result c.in_ok-put.ensures c.put_data.ensures
