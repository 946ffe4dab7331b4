use Rattle.std.proofs.Common.{refl, reverse}
use Rattle.archive_tree.proofs.Paths.{path_to_come}
use Rattle.archive_tree.proofs.audit_path.AuditPath.new.Goals as goal

pub returns-clause-begins : goal.returns-clause-begins
returns-clause-begins c =
    λ t xs h behind.
    record {
      own = refl;
      count = h.count;
      stack = path_to_come (record { index = c.args.index; hashes = c.new.result }) (reverse t.heads.items) xs behind
          h.stack;
      begins = λ _. c.new.ensures;
    }
