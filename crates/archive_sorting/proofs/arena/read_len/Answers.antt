use Rattle.std.proofs.Common.{◌∙◌}
use Rattle.archive_sorting.specs.Spans.{stored_len}
use Rattle.archive_sorting.proofs.Blocks.{length_of_four}
use Rattle.archive_sorting.proofs.arena.read_len.Goals as goal

pub returns-clause-value : goal.returns-clause-value
unfolding stored_len
returns-clause-value c = c.from_le_bytes.ensures ∙ length_of_four c.args.text.now c.requires
