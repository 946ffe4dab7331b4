use Rattle.std.proofs.Common.{◌≡◌, true, ap, sym, ◌∙◌}
use Rattle.std.specs.Prelude.{not}
use Rattle.socket_source.specs.Scripts.{flagged}
use Rattle.socket_source.proofs.Listing.{some_listed}
use Rattle.socket_source.proofs.memory_source.may_come.Goals as goal

pub returns-then-is_open : goal.returns-then-is_open
returns-then-is_open c =
    let live : flagged c.args.flags.now c.in-Piece.conn ≡ true = sym c.is_open.ensures ∙ c.if-is_open.true in
    rw (c.in-Piece.is, live) (ap not c.is_empty.ensures ∙ sym (some_listed c.args.octets.now))
