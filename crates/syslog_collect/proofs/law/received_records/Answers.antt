use Rattle.std.specs.Prelude.{None}
use Rattle.syslog_legacy.specs.FrameReadings.{whole}
use Rattle.syslog_collect.proofs.Received.{received_entry, received_record}
use Rattle.syslog_collect.proofs.law.received_records.Goals as goal

pub returns-clause-entries : goal.returns-clause-entries
returns-clause-entries c = received_entry

pub returns-clause-records : goal.returns-clause-records
returns-clause-records c = received_record

pub returns-clause-spelled : goal.returns-clause-spelled
returns-clause-spelled c = received_record (whole None)
