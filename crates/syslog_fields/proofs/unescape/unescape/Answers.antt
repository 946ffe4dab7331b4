use Rattle.syslog_fields.proofs.Unescaped.{unescapes_more, unescapes_end}
use Rattle.syslog_fields.proofs.unescape.unescape.Goals as goal

pub loop-offset-preserved : goal.loop-offset-preserved
loop-offset-preserved c =
    unescapes_more c.args.raw.now c.loop-offset.rest.now c.loop-offset.out.items c.put.new.out.items
    c.put-in-Some.new.out.items c.split_at.result.0.now c.split_at.result.1.now
    c.split_meaning.result.0.now c.split_meaning.result.1.now c.in-Some.offset c.loop-offset.invariant c.in-Some.ensures
    c.split_at.ensures.front c.split_at.ensures.back c.split_meaning.ensures
    c.in_ok-put.ensures c.in_ok-put-2.ensures

pub returns : goal.returns
returns c =
    unescapes_end c.args.raw.now c.loop-offset.rest.now c.loop-offset.out.items c.put-2.new.out.items
    c.loop-offset.invariant c.in_default.ensures c.in_ok-put-3.ensures
