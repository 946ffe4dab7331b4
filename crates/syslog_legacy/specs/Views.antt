-- What views and faults show.
use Rattle.std.specs.Prelude.{ℕ, ℤ, List}
use Rattle.syslog_value.specs.Parts.{Parts}
use Rattle.syslog_reading.specs.Views.{message_parts}
use Rattle.syslog_legacy.specs.declared.clock.LegacyClock.{LegacyClock}
use Rattle.syslog_legacy.specs.declared.view.LegacyView.{LegacyView}
use Rattle.syslog_legacy.specs.declared.fault.LegacyFault.{LegacyFault}
use Rattle.syslog_legacy.specs.declared.fault.LegacyFault.TheVariants as fault
use Rattle.syslog_legacy.specs.FrontViews.{front_parts}
use Rattle.syslog_legacy.specs.Readings.{Legacy, NotUtf8At, ReadAs, legacy_parts}

-- the record that a view shows
abbrev pub legacy_view_parts : LegacyView → Parts ℤ
legacy_view_parts v = legacy_parts (front_parts v.front) (message_parts v.message)

-- the message is no UTF-8 there; or the octets are a record, and memory was refused
abbrev pub IsLegacyFault : LegacyClock → List ℕ → LegacyFault → Type 0
IsLegacyFault clock b (fault.MessageNotUtf8 offset) = Legacy clock (NotUtf8At offset) b
IsLegacyFault clock b fault.Memory = (r : Parts ℤ) × Legacy clock (ReadAs r) b
