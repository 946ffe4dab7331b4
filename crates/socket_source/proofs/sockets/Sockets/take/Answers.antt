use Rattle.std.proofs.Common.{◌+◌, ◌∙◌}
use Rattle.socket_source.specs.Lines.{line, ready_in}
use Rattle.socket_source.proofs.Shares.{bounded_after}
use Rattle.socket_source.proofs.sockets.Sockets.take.Goals as goal

pub returns-in-Some-clause-bounded : goal.returns-in-Some-clause-bounded
returns-in-Some-clause-bounded g c =
    bounded_after c.share-share.result (ready_in (line c.args.self.now) + 1) (ready_in (line c.settle.new.self))
    (ready_in (line c.use_room.new.self)) c.take-taken.new.self c.use_room.new.self.held c.take-taken.new.buf c.take-taken.result.step
    (c.use_room.ensures.stays ∙ c.settle.ensures.stays) c.share-share.ensures.share c.take-taken.ensures.bounded c.settle.ensures.longer
    c.use_room.ensures.longer

pub returns-in-None-clause-own : goal.returns-in-None-clause-own
returns-in-None-clause-own g c = c.take_input-taken.ensures.own _ _
