use Rattle.std.proofs.Common.{◌≢◌}
use Rattle.std.proofs.Common.{Less}
use Rattle.syslog_value.proofs.Octets.{octets_ranked}
use Rattle.syslog_reading.proofs.Repeating.{above_when, most_when}
use Rattle.syslog_reading.proofs.repeated.is_above.Goals as goal

pub returns-in-Less-clause-above : goal.returns-in-Less-clause-above
returns-in-Less-clause-above c = rw c.in-Some.is
    (λ u. above_when c.in-Some.greatest.now c.args.id.now c.cmp.result
    (octets_ranked c.in-Some.greatest.now c.args.id.now c.cmp.result c.cmp.ensures) c.in-Less.is)

pub returns-in-Equal-clause-most : goal.returns-in-Equal-clause-most
returns-in-Equal-clause-most c =
    let apart : c.cmp.result ≢ Less = λ e. cc in
    rw c.in-Some.is (λ u. most_when c.in-Some.greatest.now c.args.id.now c.cmp.result
    (octets_ranked c.in-Some.greatest.now c.args.id.now c.cmp.result c.cmp.ensures) apart)

pub returns-in-Greater-clause-most : goal.returns-in-Greater-clause-most
returns-in-Greater-clause-most c =
    let apart : c.cmp.result ≢ Less = λ e. cc in
    rw c.in-Some.is (λ u. most_when c.in-Some.greatest.now c.args.id.now c.cmp.result
    (octets_ranked c.in-Some.greatest.now c.args.id.now c.cmp.result c.cmp.ensures) apart)
