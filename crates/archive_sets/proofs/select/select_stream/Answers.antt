use Rattle.std.proofs.Common.{[]}
use Rattle.archive_sets.proofs.Selecting.{selection_nil}
use Rattle.archive_sets.proofs.select.select_stream.Goals as goal

pub returns-in_default-clause-outcome : goal.returns-in_default-clause-outcome
returns-in_default-clause-outcome g c = record { xs = []; ys = []; read = tt; selection = selection_nil _; written = tt }
