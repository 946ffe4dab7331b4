use Rattle.std.proofs.Common.{add-one, arith}
use Rattle.disk.proofs.Lookups.{kept_more, kept_to_end}
use Rattle.disk.proofs.memory.settle_all.Goals as goal

pub loop-entry-preserved : goal.loop-entry-preserved
loop-entry-preserved c =
    rw add-one (kept_more c.loop-entry.entry-index c.args.entries.now c.loop-entry.entries c.settle.new.entry
    c.entry-item.result c.loop-entry-test.true c.loop-entry.invariant c.settle.ensures.name c.settle.ensures.kept)

pub returns : goal.returns
returns c = kept_to_end c.loop-entry.entry-index c.args.entries.now c.loop-entry.entries (omega arith)
    c.loop-entry.invariant
