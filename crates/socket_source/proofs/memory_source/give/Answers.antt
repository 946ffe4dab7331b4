use Rattle.std.proofs.Common.{Bool, length, ap, refl}
use Rattle.std.specs.Prelude.{◌&&◌}
use Rattle.socket_source.proofs.Listing.{len_is, put_is, some_given}
use Rattle.socket_source.proofs.memory_source.give.Goals as goal

pub returns-in-Piece-clause-given : goal.returns-in-Piece-clause-given
returns-in-Piece-clause-given c = λ room.
    let octets = c.args.octets.now in
    let buf = c.put.new.buf in
    let put = put_is octets buf c.put.result c.put.ensures.count c.put.ensures.put room in
    rw (c.in-Piece.is, put, len_is octets buf c.put.result c.put.ensures.count room) refl

pub returns-in-Piece-clause-may : goal.returns-in-Piece-clause-may
returns-in-Piece-clause-may c = λ s some.
    rw c.in-Piece.is (ap (λ (b : Bool). s.live c.in-Piece.conn && b)
    (some_given c.args.octets.now (length c.put.new.buf) c.put.result c.put.ensures.count some))

pub returns-in-Datagram-clause-given : goal.returns-in-Datagram-clause-given
returns-in-Datagram-clause-given c = λ room.
    let octets = c.args.octets.now in
    let call = c.put-in-Datagram in
    let buf = call.new.buf in
    let put = put_is octets buf call.result call.ensures.count call.ensures.put room in
    rw (c.in-Datagram.is, put, len_is octets buf call.result call.ensures.count room) refl
