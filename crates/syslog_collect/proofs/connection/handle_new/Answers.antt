use Rattle.std.proofs.Common.{refl}
use Rattle.std.specs.Prelude.{None}
use Rattle.syslog_legacy.specs.FrameReadings.{whole}
use Rattle.syslog_collect.proofs.OneReading.{adds_outcome}
use Rattle.syslog_collect.proofs.Spelling.{fits_archive}
use Rattle.syslog_collect.proofs.connection.handle_new.Goals as goal

pub unreachable-requires : goal.unreachable-requires
unreachable-requires g c =
    let h = c.has_entry.ensures c.args.octets.now c.in-Ok.ensures.whole in
    fits_archive c.args.octets.now h.0 h.1 h.2 h.3 c.requires
    (c.in-Err-TooLong.ensures.long (rw c.in-Err-TooLong.field-0-is refl) c.args.octets.now c.in-Ok.ensures.whole h.0
    h.1 h.2 h.3)

pub returns-in-Ok-add_view-clause-outcome : goal.returns-in-Ok-add_view-clause-outcome
returns-in-Ok-add_view-clause-outcome g c =
    rw c.outcome_of.ensures
    (adds_outcome (whole None) (g.S.Store.entries c.args.store.now)
    (g.S.Store.entries c.add_view.new.self) c.args.octets.now
    c.in-Ok-add_view.added (c.requires, c.in-Ok-add_view.ensures.ok c.args.octets.now c.in-Ok.ensures.whole))
