use Rattle.std.proofs.Common.{arith}
use Rattle.syslog_frame.proofs.Counts.{count_three}
use Rattle.syslog_frame.proofs.frame_ref.three_digits.Goals as goal

pub returns-in-49-to-57-clause-digits : goal.returns-in-49-to-57-clause-digits
returns-in-49-to-57-clause-digits c = (
  omega arith,
  count_three c.args.octets.now _ (omega arith) (omega arith) (omega arith) (omega arith, omega arith)
      (omega arith, omega arith) (omega arith) (omega arith),
)
