use Rattle.std.proofs.Common.{eq-eqb}
use Rattle.std.proofs.lemmas.Bool.{eqb-true}
use Rattle.syslog_grammar.proofs.UtcTimes.{by_last, other_len}
use Rattle.syslog_grammar.proofs.canonical_form.has_time_form.Goals as goal

pub returns-then-octets-behind : goal.returns-then-octets-behind
returns-then-octets-behind c = rw c.in-Some.is
    (other_len c.in-Some._time c.args.octets.now c.args.behind.now (rw c.in-Some.is at c.requires)
    c.if-octets-behind.true)

pub returns : goal.returns
returns c = rw c.in-Some.is
    (by_last c.in-Some._time c.args.octets.now c.args.behind.now _ (rw c.in-Some.is at c.requires)
    c.if-octets-behind.false (eqb-true _ _, eq-eqb _ _))
