use Rattle.record_json.proofs.DataParts.{elements_all, elements_end, elements_more}
use Rattle.record_json.proofs.data.put_elements.Goals as goal

pub loop-first-init : goal.loop-first-init
loop-first-init c = elements_all c.args.elements.now c.args.out.now.items

pub returns : goal.returns
returns c =
    elements_end c.args.elements.now c.loop-first.rest.now c.loop-first.later c.args.out.now.items
    c.loop-first.out.items c.put.new.out.items c.put.result c.in_default.ensures c.loop-first.invariant c.put.ensures

pub loop-first-preserved : goal.loop-first-preserved
loop-first-preserved c =
    elements_more c.args.elements.now c.loop-first.rest.now c.in_ok-rest.rest.now c.in-Some._after.now
    c.loop-first.later c.args.out.now.items c.loop-first.out.items c.put_element.new.out.items c.in-Some._first
    c.in-Some.ensures c.in_ok-rest.ensures.form c.loop-first.invariant
