use Rattle.std.proofs.Common.{◌≡◌, ◌≤◌, length, rules, subst, sym, Some}
use Rattle.std.specs.Prelude.{IfSome, option_map}
use Rattle.slab.specs.Slab.{Slab, get}
use Rattle.peer_rules.specs.AllowLists.{networks_of}
use Rattle.socket_source.specs.Places.{begun, place_in}
use Rattle.socket_source.specs.Standings.{framings_of, standing_of}
use Rattle.socket_source.specs.declared.connection.Connection.{Connection}
use Rattle.socket_source.proofs.Rating.{piece_at_rate, piece_bounded, piece_lawful}
use Rattle.socket_source.proofs.open_sockets.OpenSockets.read.Goals as goal

pub returns-in-Piece-clause-lawful : goal.returns-in-Piece-clause-lawful
returns-in-Piece-clause-lawful c =
    let held = c.args.self.now in
    rw c.some.ensures (piece_lawful held.connections.streams c.read.new.self.streams held.connections.limit c.read.new.self.limit
    (standing_of held).listeners (networks_of held.allowed) (standing_of c.charge.new.self) c.in-Some.peer
    (length c.read.new.buf) c.args.conn c.in-Piece.len c.read.ensures.same c.read.ensures.limit c.charge.ensures.standing
    c.in-Some.ensures c.in-Piece.ensures.within.0 c.in-Piece.ensures.within.1)

pub returns-in-Piece-clause-bounded : goal.returns-in-Piece-clause-bounded
returns-in-Piece-clause-bounded c =
    let of = subst (λ (k : Slab Connection). Some c.in-Some.peer ≡ option_map (λ x. x.address) (get k c.args.conn))
    (sym c.read.ensures.same) c.in-Some.ensures in
    rw c.some.ensures (piece_bounded c.args.share c.read.new.self.streams (framings_of c.charge.new.self) c.args.conn
    c.in-Some.peer c.read.new.buf c.in-Piece.len c.charge.ensures.framings of c.in-Piece.ensures.bounded)

pub returns-in-Piece-clause-paced : goal.returns-in-Piece-clause-paced
returns-in-Piece-clause-paced c =
    let held = c.args.self.now in
    let start = place_in held.connections.places.items c.args.conn in
    let few = subst (λ (k : Slab Connection). IfSome c.room-room.result (λ room. IfSome
    (option_map (λ x. x.framing) (get k c.args.conn)) (λ framing. begun framing start c.read.new.buf c.in-Piece.len ≤ room)))
    c.read.ensures.same c.in-Piece.ensures.few in
    rw c.some.ensures (piece_at_rate held.pace c.charge.new.self.pace (get held.connections.streams c.args.conn) c.in-Some.peer
    c.room-room.result start c.args.now c.read.new.buf c.args.conn c.in-Piece.len c.in-Some.ensures c.room-room.ensures
    (λ none. absurd (search (rules, none))) few
    (rw (← c.read.ensures.same, ← c.read.ensures.places) c.charge.ensures.charged))
