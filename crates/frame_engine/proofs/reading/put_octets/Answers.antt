use Rattle.frame_engine.proofs.ReadingLemmas.{written}
use Rattle.frame_engine.proofs.reading.put_octets.Goals as goal

pub returns-in-None-clause-ok : goal.returns-in-None-clause-ok
returns-in-None-clause-ok c =
    written c.args.clock c.args.octets.now c.args.out.now.items c.write_canonical_octets.new.out.items
    c.in_default.ensures.0 (rw c.in-None.is at c.in_ok-write_canonical_octets.ensures.ok)
