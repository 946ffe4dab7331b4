use Rattle.syslog_reading.specs.Views.{param_span}
use Rattle.record_json.proofs.DataParts.{param_puts}
use Rattle.record_json.proofs.data.put_param.Goals as goal

pub returns : goal.returns
returns c =
    param_puts c.args.later (param_span c.args.param.now) c.args.out.now.items c.put_pair_opening.new.out.items
    c.put_escaped.new.out.items c.put.new.out.items c.put_value.new.out.items c.put-2.new.out.items c.put-2.result
    c.in_ok-put_pair_opening.ensures (rw c.name.ensures at c.in_ok-put_escaped.ensures) c.in_ok-put.ensures
    (rw c.raw.ensures at c.in_ok-put_value.ensures) c.put-2.ensures
