use Rattle.std.proofs.Common.{◌≡◌, List}
use Rattle.archive_text.specs.Entries.{Entry}
use Rattle.archive_spill.specs.Sets.{Keeps, limit_of}
use Rattle.archive_spill.proofs.spilled.SpilledArchive+P+P+Run.join_full.Given as goal

abbrev pub invariant-loop-count : goal.invariant-loop-count
invariant-loop-count g l = record {
  keeps : (es : List Entry) → Keeps g.P.Spill.tells g.P.Run.Input.state l.fn.self es
      → Keeps g.P.Spill.tells g.P.Run.Input.state l.self es;
  pages : l.self.pages ≡ l.fn.self.pages;
  lost : l.self.lost ≡ l.fn.self.lost;
  limit : limit_of l.self ≡ limit_of l.fn.self;
}

abbrev pub decreases-loop-count : goal.decreases-loop-count
decreases-loop-count g l = l.count
