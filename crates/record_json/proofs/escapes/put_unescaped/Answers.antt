use Rattle.record_json.proofs.Escaping.{value_all, value_end, value_more}
use Rattle.record_json.proofs.escapes.put_unescaped.Goals as goal

pub loop-offset-init : goal.loop-offset-init
loop-offset-init c = value_all c.args.raw.now c.args.out.now.items

pub loop-offset-preserved : goal.loop-offset-preserved
loop-offset-preserved c =
    value_more c.args.raw.now c.loop-offset.rest.now c.args.out.now.items c.loop-offset.out.items
    c.put_escaped.new.out.items c.put_escaped-in-Some.new.out.items c.split_at.result.0.now c.split_at.result.1.now
    c.split_meaning.result.0.now c.split_meaning.result.1.now c.in-Some.offset c.loop-offset.invariant c.in-Some.ensures
    c.split_at.ensures.front c.split_at.ensures.back c.split_meaning.ensures
    c.in_ok-put_escaped.ensures c.in_ok-put_escaped-2.ensures

pub returns : goal.returns
returns c =
    value_end c.args.raw.now c.loop-offset.rest.now c.args.out.now.items c.loop-offset.out.items
    c.put_escaped-2.new.out.items c.put_escaped-2.result c.loop-offset.invariant c.in_default.ensures
    c.put_escaped-2.ensures
