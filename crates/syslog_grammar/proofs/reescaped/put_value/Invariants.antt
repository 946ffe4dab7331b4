use Rattle.std.proofs.Common.{◌≤◌, length}
use Rattle.syslog_grammar.proofs.FirstForms.{ValueWritten, octets_left}
use Rattle.syslog_grammar.proofs.reescaped.put_value.Given as goal

abbrev pub invariant-loop-is_last : goal.invariant-loop-is_last
invariant-loop-is_last l = record {
  written : ValueWritten l.octets l.rest l.is_last l.fn.out.items l.out.items;
  within : length l.rest ≤ length l.octets;
}

abbrev pub decreases-loop-is_last : goal.decreases-loop-is_last
decreases-loop-is_last l = octets_left l.is_last l.rest
