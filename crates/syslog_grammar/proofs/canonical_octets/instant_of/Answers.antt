use Rattle.std.proofs.Common.{rules, w16}
use Rattle.std.proofs.lemmas.Int.{to_z-of_z}
use mir.Val.{SFits}
use Rattle.syslog_value.proofs.InnerYears.{no_fault}
use Rattle.syslog_grammar.proofs.canonical_octets.instant_of.Goals as goal

pub unreachable-requires : goal.unreachable-requires
unreachable-requires c =
    let t = c.in_ok-time.time in
    let f : SFits w16 t.offset_minutes = search rules in
    let exists = rw c.in_ok-time.was at c.requires.exists in
    let inner = rw c.in_ok-time.was at c.requires.inner in
    no_fault t.civil t.offset_minutes c.in-Err.field-0 inner exists.0 exists.1
    (rw (to_z-of_z w16 t.offset_minutes f) at c.in-Err.ensures.err)
