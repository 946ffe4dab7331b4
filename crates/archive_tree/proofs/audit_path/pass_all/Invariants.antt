use Rattle.archive_tree.proofs.Moves.{PassTo}
use Rattle.archive_tree.proofs.audit_path.pass_all.Given as goal

abbrev pub invariant-loop-path : goal.invariant-loop-path
invariant-loop-path l = PassTo l.path-index l.end l.left l.right l.initial.paths l.paths
