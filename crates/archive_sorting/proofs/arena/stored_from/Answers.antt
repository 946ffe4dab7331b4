use Rattle.std.proofs.Common.{arith}
use Rattle.archive_sorting.proofs.Blocks.{short_stored}
use Rattle.archive_sorting.proofs.arena.stored_from.Goals as goal

pub returns-then-saturating_sub-lt-PREFIX : goal.returns-then-saturating_sub-lt-PREFIX
returns-then-saturating_sub-lt-PREFIX c = short_stored c.args.block.now c.args.start (omega arith)
