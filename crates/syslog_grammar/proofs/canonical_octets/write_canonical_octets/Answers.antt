use Rattle.syslog_grammar.proofs.CanonicalOctets.{verbatim_canonical}
use Rattle.syslog_grammar.proofs.canonical_octets.write_canonical_octets.Goals as goal

pub returns-clause-ok : goal.returns-clause-ok
returns-clause-ok c =
    verbatim_canonical c.args.octets.now c.args.out.now.items c.put_verbatim.new.out.items c.in-Ok.parsed
    c.in-Ok.ensures (c.lies_canonical.ensures.inner c.if-not-lies_canonical.false)
    (c.lies_canonical.ensures.form c.if-not-lies_canonical.false)
    (c.lies_canonical.ensures.order c.if-not-lies_canonical.false)
    (c.lies_canonical.ensures.message c.if-not-lies_canonical.false) c.in_default.ensures
