use Rattle.std.proofs.Common.{◌≤◌, length}
use Rattle.syslog_grammar.proofs.FirstForms.{ParamsWritten}
use Rattle.syslog_grammar.proofs.reescaped.put_params.Given as goal

abbrev pub invariant-loop-out : goal.invariant-loop-out
invariant-loop-out l = record {
  written : ParamsWritten l.octets l.rest l.fn.out.items l.out.items;
  within : length l.rest ≤ length l.octets;
}

abbrev pub decreases-loop-out : goal.decreases-loop-out
decreases-loop-out l = length l.rest
