use Rattle.syslog_legacy.specs.Views.{legacy_view_parts}
use Rattle.syslog_collect.proofs.OneReading.{legacy_adds, legacy_record}
use Rattle.syslog_collect.proofs.connection.handle_legacy.Goals as goal

pub returns-in_default-clause-spelled : goal.returns-in_default-clause-spelled
returns-in_default-clause-spelled g c = legacy_record c.args.clock.now c.args.packet.now
    (legacy_view_parts c.in-Ok.shown) c.requires.within c.requires.legacy c.in-Ok.ensures

pub returns-in-Ok-add-clause-outcome : goal.returns-in-Ok-add-clause-outcome
returns-in-Ok-add-clause-outcome g c =
    rw c.outcome_of.ensures
    (legacy_adds c.args.clock.now (g.S.Store.entries c.args.store.now) (g.S.Store.entries c.add.new.self)
    c.args.packet.now (legacy_view_parts c.in-Ok.shown) _ c.in-Ok-add.added c.requires.within c.requires.legacy
    c.in-Ok.ensures c.in-Ok-to_record.ensures c.in-Ok-add.ensures.ok)
