use Rattle.std.proofs.Common.{length}
use Rattle.archive_pages.specs.Paged.{entries_from}
use Rattle.store_keeper.specs.Keeping.{TakesFront}
use Rattle.store_keeper.proofs.adding.add_from.Given as goal

abbrev pub invariant-entries : goal.invariant-entries
invariant-entries l =
    TakesFront l.fn.store l.store (entries_from l.fresh l.fn.place) (entries_from l.fresh l.place)

abbrev pub decreases-entries : goal.decreases-entries
decreases-entries l = length (entries_from l.fresh l.place)
