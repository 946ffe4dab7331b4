use Rattle.std.proofs.Common.{add-one, arith}
use Rattle.disk.proofs.Leaving.{left_more, left_to_end}
use Rattle.disk.proofs.memory.crash_all.Goals as goal

pub loop-entry-preserved : goal.loop-entry-preserved
loop-entry-preserved c =
    rw add-one (left_more c.loop-entry.entry-index c.args.entries.now c.loop-entry.entries c.crash_in.new.entry
    c.entry-item.result c.loop-entry-test.true c.loop-entry.invariant c.crash_in.ensures.name
    c.in_ok-crash_in.ensures.left)

pub returns : goal.returns
returns c = left_to_end c.loop-entry.entry-index c.args.entries.now c.loop-entry.entries (omega arith)
    c.loop-entry.invariant
