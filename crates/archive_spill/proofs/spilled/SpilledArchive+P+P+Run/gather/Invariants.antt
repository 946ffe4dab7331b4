use Rattle.std.proofs.Common.{◌≡◌, List, [], vec_len}
use Rattle.archive_text.specs.Entries.{Entry}
use Rattle.archive_pages.specs.Paged.{entries_in}
use Rattle.archive_spill.specs.Sets.{Keeps}
use Rattle.archive_spill.proofs.spilled.SpilledArchive+P+P+Run.gather.Given as goal

abbrev pub invariant-loop-self : goal.invariant-loop-self
invariant-loop-self g l = record {
  keeps : (es : List Entry) → Keeps g.P.Spill.tells g.P.Run.Input.state l.fn.self es
      → Keeps g.P.Spill.tells g.P.Run.Input.state l.self es;
  none : entries_in l.self.pages ≡ [];
}

abbrev pub decreases-loop-self : goal.decreases-loop-self
decreases-loop-self g l = vec_len l.self.runs
