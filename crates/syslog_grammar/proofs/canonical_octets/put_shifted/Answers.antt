use Rattle.std.proofs.Common.{take}
use Rattle.std.specs.Prelude.{option_map}
use Rattle.octet_language.specs.Language.{Only}
use Rattle.syslog_fields.specs.Canonical.{TimeForm}
use Rattle.syslog_fields.specs.Dates.{time_of}
use Rattle.syslog_fields.specs.Time.{instant}
use Rattle.syslog_fields.proofs.Appends.{puts_then}
use Rattle.syslog_grammar.proofs.canonical_octets.put_shifted.Goals as goal

pub returns : goal.returns
returns c =
    puts_then (Only (take c.args.at c.args.octets.now))
    (TimeForm (option_map (λ t. instant (time_of t)) c.args.time)) c.args.out.now.items
    c.put.new.out.items c.put_time.new.out.items c.put_time.result
    (rw c.split_at.ensures.front at c.in_ok-put.ensures) (rw c.instant_of.ensures at c.put_time.ensures)
