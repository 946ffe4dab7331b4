use Rattle.std.proofs.Common.{Some}
use Rattle.session_output.specs.Runs.{outputs}
use Rattle.read_engine.proofs.choosing.read_into.Given as goal

abbrev pub ghosts-read_run : goal.ghosts-read_run
ghosts-read_run g a = record {
  first = Some a.session;
  start = outputs (g.W.Output.state a.output.now) (g.N.Output.state a.diagnostics.now);
  output = a.output.ghost_name;
  diagnostics = a.diagnostics.ghost_name;
}
