use Rattle.archive_streams.proofs.Giving.{ReadsOn-then}
use Rattle.archive_streams.proofs.reading.read_cut.Goals as goal

pub returns-clause-reads : goal.returns-clause-reads
returns-clause-reads g c = ReadsOn-then _ _ _ _ _ _ _ _ _ c.read_count.ensures.reads c.read_octets.ensures.reads

pub returns-in_err-read_octets-clause-reads : goal.returns-in_err-read_octets-clause-reads
returns-in_err-read_octets-clause-reads g c =
    ReadsOn-then _ _ _ _ _ _ _ _ _ c.read_count.ensures.reads c.read_octets.ensures.reads
