use Rattle.driver.specs.Effects.{done_of}
use Rattle.archive_sorting.specs.Records.{entries_in}
use Rattle.archive_engine.proofs.GatheredSets.{datagram_settled}
use Rattle.archive_engine.proofs.archive_datagram.ArchiveDatagramSession.end.Goals as goal

pub returns : goal.returns
returns c = λ first given before s so_far.
    let h = c.in_ok-handle.ensures.ok first.gathering given s.2 s.1 in
    datagram_settled first.gathering c.handle.new.self.gathering given before (done_of c.args.effects.now)
    (done_of c.handle.new.effects) (entries_in c.settle.result) c.settle.result.sorted c.settle.ensures s.0 so_far h.0 h.1
