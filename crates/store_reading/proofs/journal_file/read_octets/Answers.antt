use Rattle.std.proofs.Common.{rules}
use Rattle.store_reading.specs.declared.journal_file.TheConstants.{JOURNAL_MAX}
use Rattle.store_reading.proofs.Batched.{all_given}
use Rattle.store_reading.proofs.journal_file.read_octets.Goals as goal

pub returns-then-len-lt-JOURNAL_MAX-clause-given : goal.returns-then-len-lt-JOURNAL_MAX-clause-given
returns-then-len-lt-JOURNAL_MAX-clause-given g c =
    all_given (g.R.Input.state c.args.reader.now).left c.in-Ok.octets.items JOURNAL_MAX c.in-Ok.ensures.outcome.first
    (search rules)
