use Rattle.std.proofs.Common.{length, take, refl, arith}
use Rattle.collect_engine.proofs.Listing.{least, put_is}
use Rattle.collect_engine.proofs.list_source.put.Goals as goal

pub returns-clause-put : goal.returns-clause-put
returns-clause-put c = λ room.
    let octets = c.args.octets.now in
    let few = least (length octets) (length c.args.buf.now) 262145 c.min.result c.min-len.result c.min.ensures
    c.min-len.ensures (omega arith) in
    put_is octets c.copy_front.new.buf (take c.min-len.result octets) c.min-len.result 262145 refl c.copy_front.ensures
    few.0 few.1 few.2
