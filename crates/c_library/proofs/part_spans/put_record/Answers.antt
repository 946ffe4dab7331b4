use Rattle.std.proofs.Common.{ap, arith, length}
use Rattle.std.proofs.lemmas.List.{length-append}
use Rattle.syslog_reading.specs.ViewParts.{view_parts}
use Rattle.c_library.proofs.Laying.{lies_room}
use Rattle.c_library.proofs.Showing.{record_shown}
use Rattle.c_library.proofs.part_spans.put_record.Goals as goal

pub put_elements-count-requires-clause-each : goal.put_elements-count-requires-clause-each
put_elements-count-requires-clause-each c =
    let seen = c.requires.view in
    (seen.0.elements, c.elements_text-text.ensures.elements seen.0.elements seen.4.elements)

pub put_elements-count-requires-clause-within : goal.put_elements-count-requires-clause-within
put_elements-count-requires-clause-within c =
    let s = view_parts c.args.view.now in
    let front = c.elements_text-text.ensures.front in
    let room = lies_room c.args.octets.now s.elements _ c.layout_of-at.ensures.structured_data in
    omega (arith, room, c.requires.within, ap length front.1, length-append c.elements_text-text.result.now front.0)

pub put_elements-count-requires-clause-few : goal.put_elements-count-requires-clause-few
put_elements-count-requires-clause-few c =
    let s = view_parts c.args.view.now in
    let front = c.elements_text-text.ensures.front in
    let room = lies_room c.args.octets.now s.elements _ c.layout_of-at.ensures.structured_data in
    omega (arith, room, c.requires.within, ap length front.1, length-append c.elements_text-text.result.now front.0)

pub returns-clause-shown : goal.returns-clause-shown
returns-clause-shown c =
    let b = c.args.octets.now in
    let s = view_parts c.args.view.now in
    let seen = c.requires.view in
    let front = c.elements_text-text.ensures.front in
    let put = c.put_elements-count.ensures in
    record_shown b s c.layout_of-at.result.structured_data c.put_elements-count.result c.header_spans.result put.0
    c.args.room.now c.place.new.room c.put_elements-count.new.room c.place-2.new.room c.new-message.result
    c.elements_text-text.result.now front.0 c.message-len.result.now c.requires.within seen c.header_spans.ensures
    front.1 (c.elements_text-text.ensures.elements seen.0.elements seen.4.elements) put.2 c.place.ensures put.1
    c.new-message.ensures c.message-len.ensures c.place-2.ensures

pub returns-clause-bound : goal.returns-clause-bound
returns-clause-bound c =
    let s = view_parts c.args.view.now in
    let front = c.elements_text-text.ensures.front in
    let room = lies_room c.args.octets.now s.elements _ c.layout_of-at.ensures.structured_data in
    let put = c.put_elements-count.ensures.1 in
    omega (
      arith,
      room,
      c.requires.within,
      ap length front.1,
      length-append c.elements_text-text.result.now front.0,
      put.result_is,
      put.few,
    )
