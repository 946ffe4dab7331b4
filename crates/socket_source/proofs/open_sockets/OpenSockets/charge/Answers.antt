use Rattle.std.proofs.Common.{◌∙◌, sym}
use Rattle.socket_source.specs.Places.{begun, place_in}
use Rattle.socket_source.specs.Standings.{framings_of}
use Rattle.socket_source.proofs.Rating.{uncharged}
use Rattle.socket_source.proofs.open_sockets.OpenSockets.charge.Goals as goal

pub returns-else-is_bounded-clause-charged : goal.returns-else-is_bounded-clause-charged
returns-else-is_bounded-clause-charged c =
    let held = c.args.self.now in
    uncharged (framings_of held c.args.conn) held.pace c.args.peer c.args.now
    (λ framing. begun framing (place_in held.connections.places.items c.args.conn) c.args.octets.now c.args.len)
    (sym c.is_bounded.ensures ∙ c.if-is_bounded.false)
