use Rattle.syslog_reading.proofs.InnerTimes.{inner_exists}
use Rattle.syslog_grammar.proofs.CanonicalOctets.{utc_put, utc_within}
use Rattle.syslog_grammar.proofs.canonical_octets.put_front.Goals as goal

pub put_utc-requires-clause-within : goal.put_utc-requires-clause-within
put_utc-requires-clause-within c = (utc_within c.args.time c.in-Some.micros c.args.octets.now c.requires.time.0 c.args.at
    c.in-Some.ensures c.requires.within c.requires.time.1).0

pub put_utc-requires-clause-digits : goal.put_utc-requires-clause-digits
put_utc-requires-clause-digits c = (utc_within c.args.time c.in-Some.micros c.args.octets.now c.requires.time.0 c.args.at
    c.in-Some.ensures c.requires.within c.requires.time.1).1

pub put_shifted-requires-clause-exists : goal.put_shifted-requires-clause-exists
put_shifted-requires-clause-exists c = inner_exists c.args.time _ c.requires.time.0 c.requires.time.1

pub returns-in-Some : goal.returns-in-Some
returns-in-Some c =
    utc_put c.args.time c.in-Some.micros c.args.octets.now c.requires.time.0 c.args.out.now.items
    c.put_utc.new.out.items c.args.at c.put_utc.result c.in-Some.ensures c.requires.time.1 c.put_utc.ensures
