use Rattle.record_json.proofs.Escaping.{escapes_more, escapes_end}
use Rattle.record_json.proofs.escapes.put_pieces.Goals as goal

pub loop-offset-preserved : goal.loop-offset-preserved
loop-offset-preserved c =
    escapes_more c.args.octets.now c.loop-offset.rest.now c.args.out.now.items c.loop-offset.out.items
    c.put.new.out.items c.put_octets.new.out.items
    c.split_at.result.0.now c.split_at.result.1.now c.split_at-in-Some.result.0.now c.split_at-in-Some.result.1.now
    c.in-Some.offset c.loop-offset.invariant c.in-Some.ensures
    c.split_at.ensures.front c.split_at.ensures.back c.split_at-in-Some.ensures.front c.split_at-in-Some.ensures.back
    c.in_ok-put.ensures c.in_ok-put_octets.ensures

pub returns : goal.returns
returns c =
    escapes_end c.args.octets.now c.loop-offset.rest.now c.args.out.now.items c.loop-offset.out.items
    c.put-2.new.out.items c.put-2.result c.loop-offset.invariant c.in_default.ensures c.put-2.ensures
