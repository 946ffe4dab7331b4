use Rattle.std.proofs.Common.{[], ◌+◌, ◌∷◌, ◌++◌, arith, length, sym}
use Rattle.c_library.specs.PartSpans.{part_span}
use Rattle.c_library.proofs.Placing.{placed_none}
use Rattle.c_library.proofs.Putting.{element_count, element_len, element_put, elements_all, elements_more, elements_none}
use Rattle.c_library.proofs.Putting.{inner_params, next_first}
use Rattle.c_library.proofs.part_spans.put_elements.Goals as goal

pub loop-first-init : goal.loop-first-init
loop-first-init c = (
  [],
  sym (placed_none c.args.index c.args.room.now),
  omega arith,
  elements_none c.args.at c.args.text.now c.requires.each,
)

pub next_element-requires : goal.next_element-requires
next_element-requires c =
    next_first c.args.at c.loop-first.here c.args.text.now c.loop-first.rest.now c.in-Some._after.now c.in-Some._first
    c.loop-first.invariant.0 c.in-Some.ensures c.loop-first.invariant.3

pub put_params-count-requires-clause-each : goal.put_params-count-requires-clause-each
put_params-count-requires-clause-each c =
    inner_params c.args.at c.loop-first.here c.args.text.now c.loop-first.rest.now c.next_element.result.2.now
    c.in-Some._after.now c.in-Some._first
    (record { id = c.next_element.result.0.now; params = c.next_element.result.1.now }) c.loop-first.invariant.0
    c.in-Some.ensures c.next_element.ensures c.loop-first.invariant.3

pub put_params-count-requires-clause-within : goal.put_params-count-requires-clause-within
put_params-count-requires-clause-within c =
    let put = c.loop-first.invariant.3 in
    let len = element_len (record { id = c.next_element.result.0.now; params = c.next_element.result.1.now })
    c.loop-first.rest.now c.next_element.result.2.now c.next_element.ensures in
    omega (arith, len, put.here_is, c.requires.within)

pub put_params-count-requires-clause-few : goal.put_params-count-requires-clause-few
put_params-count-requires-clause-few c =
    let put = c.loop-first.invariant.3 in
    let len = element_len (record { id = c.next_element.result.0.now; params = c.next_element.result.1.now })
    c.loop-first.rest.now c.next_element.result.2.now c.next_element.ensures in
    omega (arith, len, put.few, c.loop-first.invariant.2, c.requires.few)

pub loop-first-preserved : goal.loop-first-preserved
loop-first-preserved c =
    let id = c.next_element.result.0.now in
    let params = c.next_element.result.1.now in
    let done = c.loop-first.invariant.0 in
    let here = c.loop-first.here in
    let inner = c.put_params-count.ensures.0 in (
      done ++ part_span 8 (here + 1) (length id) ∷ inner,
      element_put c.args.index c.loop-first.count here done inner c.args.room.now c.loop-first.room c.place.new.room
          c.put_params-count.new.room c.new.result id c.new.ensures c.loop-first.invariant.1 c.loop-first.invariant.2
          c.place.ensures c.put_params-count.ensures.1.room_is,
      element_count c.args.index c.loop-first.count c.put_params-count.result done inner (part_span 8 (here + 1) (length id))
          c.loop-first.invariant.2 c.put_params-count.ensures.1.result_is,
      elements_more c.args.at here c.args.text.now c.loop-first.rest.now c.next_element.result.2.now
          c.in-Some._after.now c.in-Some._first (record { id = id; params = params }) done inner c.in-Some.ensures
          c.next_element.ensures c.put_params-count.ensures.1.few c.put_params-count.ensures.2 c.loop-first.invariant.3,
    )

pub returns : goal.returns
returns c = (
  c.loop-first.invariant.0,
  record {
    room_is = c.loop-first.invariant.1;
    result_is = c.loop-first.invariant.2;
    few = omega (arith, c.loop-first.invariant.3.few);
  },
  elements_all c.args.at c.loop-first.here c.args.text.now c.loop-first.rest.now c.loop-first.invariant.0
      c.in_default.ensures c.loop-first.invariant.3,
)
