use Rattle.std.proofs.Common.{add-one, arith}
use Rattle.archive_tree.proofs.Moves.{pass_more, pass_to_end}
use Rattle.archive_tree.proofs.audit_path.pass_all.Goals as goal

pub loop-path-preserved : goal.loop-path-preserved
loop-path-preserved c =
    rw add-one (pass_more c.loop-path.path-index c.args.end c.args.left.now c.args.right.now c.args.paths.now
    c.loop-path.paths c.pass.new.self c.path-item.result c.loop-path-test.true c.loop-path.invariant c.pass.ensures)

pub returns : goal.returns
returns c =
    pass_to_end c.loop-path.path-index c.args.end c.args.left.now c.args.right.now c.args.paths.now c.loop-path.paths
    (omega arith) c.loop-path.invariant
