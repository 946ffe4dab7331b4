use Rattle.socket_source.proofs.Marks.{few_counted, few_lines}
use Rattle.socket_source.proofs.law.marks_bound_frames.Goals as goal

pub returns-clause-lines : goal.returns-clause-lines
returns-clause-lines c before octets old new r q was is = few_lines before octets old new r q was is

pub returns-clause-counted : goal.returns-clause-counted
returns-clause-counted c before octets old new r q was is = few_counted before octets old new r q was is
