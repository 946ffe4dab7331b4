use Rattle.std.proofs.Common.{arith, sym}
use Rattle.socket_source.proofs.Beginnings.{all_begun, all_placed}
use Rattle.socket_source.proofs.connections.Connections.begin.Goals as goal

pub returns-clause-frames : goal.returns-clause-frames
returns-clause-frames c = rw (← c.place.ensures)
    (all_begun c.args.self.now.streams c.args.conn c.in-Some.connection.now _ c.args.octets.now c.args.len c.begin-begun.result
    (sym c.in-Some.ensures) c.begin-begun.ensures (omega (arith, c.requires)))

pub returns-clause-places : goal.returns-clause-places
returns-clause-places c = rw (← c.place.ensures)
    (all_placed c.args.self.now.streams c.args.conn c.in-Some.connection.now _ c.args.octets.now c.args.len c.begin-begun.result _ _
    (sym c.in-Some.ensures) c.begin-begun.ensures (omega (arith, c.requires)) c.note_place.ensures.places)
