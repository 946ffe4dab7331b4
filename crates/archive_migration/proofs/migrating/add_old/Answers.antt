use Rattle.std.proofs.Common.{ap}
use Rattle.std.specs.Prelude.{Err}
use Rattle.syslog_reading.specs.ViewParts.{view_parts}
use Rattle.archive_text.specs.declared.limits.TheConstants.{ENTRY_MAX}
use Rattle.archive_migration.specs.Reading.{old_entry_of}
use Rattle.archive_migration.proofs.NewOctets.{never_too_long}
use Rattle.archive_migration.proofs.Steps.{adds_new}
use Rattle.archive_migration.proofs.migrating.add_old.Goals as goal

pub unreachable-requires : goal.unreachable-requires
unreachable-requires g c =
    never_too_long ENTRY_MAX (old_entry_of c.args.old.now) (view_parts c.args.old.now.view) c.requires.entry
    c.requires.fits c.requires.view
    (c.in-Err-TooLong.ensures.long (ap (λ fault. Err fault) c.in-Err-TooLong.field-0-is))

pub returns-in-Ok : goal.returns-in-Ok
returns-in-Ok g c =
    adds_new (old_entry_of c.args.old.now) (view_parts c.args.old.now.view) _ _ c.in-Ok.field-0 c.requires.entry
    c.requires.view c.in-Ok.ensures.ok
