use Rattle.store_upkeep.proofs.SameSets.{removes_other}
use Rattle.store_upkeep.proofs.compaction.remove_other.Goals as goal

pub returns-in-Err-Missing-clause-done : goal.returns-in-Err-Missing-clause-done
returns-in-Err-Missing-clause-done g c tells =
    removes_other (g.D.Disk.state c.args.disk.now) (g.D.Disk.state c.remove.new.self) c.args.segment.now
    c.args.joined.now c.remove.result
    (λ same. let yes = c.is_same.ensures.1 same in absurd (cc (c.if-is_same.false, yes))) (c.remove.ensures.done tells)

pub returns-in_default-2-clause-done : goal.returns-in_default-2-clause-done
returns-in_default-2-clause-done g c tells =
    removes_other (g.D.Disk.state c.args.disk.now) (g.D.Disk.state c.remove.new.self) c.args.segment.now
    c.args.joined.now c.remove.result
    (λ same. let yes = c.is_same.ensures.1 same in absurd (cc (c.if-is_same.false, yes))) (c.remove.ensures.done tells)
