use Rattle.syslog_reading.specs.ViewParts.{view_parts}
use Rattle.std.proofs.Common.{arith}
use Rattle.c_library.proofs.Heading.{header_room, header_shown}
use Rattle.c_library.proofs.part_spans.header_spans.Goals as goal

pub returns : goal.returns
returns c =
    header_shown c.args.octets.now (view_parts c.args.view.now) c.args.at c.priority_len-version.result _ _ _ _ _ _ _
    c.requires.layout c.priority_len-version.ensures c.new.ensures c.new-2.ensures c.new-3.ensures c.new-4.ensures
    c.new-5.ensures c.new-6.ensures c.new-7.ensures

pub overflow_add-time : goal.overflow_add-time
overflow_add-time c =
    let room = header_room c.args.octets.now (view_parts c.args.view.now) c.priority_len-version.result c.args.at.hostname
    c.requires.layout.hostname_is c.priority_len-version.ensures c.requires.view in
    omega (arith, room.1, room.2)

pub overflow_sub-version : goal.overflow_sub-version
overflow_sub-version c =
    let room = header_room c.args.octets.now (view_parts c.args.view.now) c.priority_len-version.result c.args.at.hostname
    c.requires.layout.hostname_is c.priority_len-version.ensures c.requires.view in
    room.0

pub overflow_sub-at : goal.overflow_sub-at
overflow_sub-at c =
    let room = header_room c.args.octets.now (view_parts c.args.view.now) c.priority_len-version.result c.args.at.hostname
    c.requires.layout.hostname_is c.priority_len-version.ensures c.requires.view in
    omega (arith, room.1)

pub overflow_sub-at-2 : goal.overflow_sub-at-2
overflow_sub-at-2 c =
    let room = header_room c.args.octets.now (view_parts c.args.view.now) c.priority_len-version.result c.args.at.hostname
    c.requires.layout.hostname_is c.priority_len-version.ensures c.requires.view in
    omega (arith, room.1)
