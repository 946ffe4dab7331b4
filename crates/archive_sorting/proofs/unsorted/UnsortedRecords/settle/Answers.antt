use Rattle.archive_sorting.proofs.Members.{archive_same, same_then}
use Rattle.archive_sorting.proofs.unsorted.UnsortedRecords.settle.Goals as goal

pub invariant_of-result-clause-sorted : goal.invariant_of-result-clause-sorted
invariant_of-result-clause-sorted c =
    archive_same _ _ (same_then _ _ _ c.shed.ensures.same c.settle.ensures.same) c.args.self.fit
    c.settle.ensures.ascending

pub returns : goal.returns
returns c = same_then _ _ _ c.shed.ensures.same c.settle.ensures.same
