use Rattle.std.proofs.Common.{◌≡◌}
use Rattle.std.specs.Prelude.{IsTrue}
use Rattle.site_pipe.specs.Answering.{Keeps}
use Rattle.site_pipe.proofs.answering.Leave.serve.Given as goal

abbrev pub invariant-turns : goal.invariant-turns
invariant-turns g l =
    let entries = g.S.RangedSet.entries in
    record {
      keeps : Keeps (entries l.fn.set) (entries l.set);
      read_only : IsTrue l.fn.self.is_read_only → entries l.set ≡ entries l.fn.set;
      same : l.self.is_read_only ≡ l.fn.self.is_read_only;
    }
