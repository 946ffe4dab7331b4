use Rattle.std.proofs.Common.{◌<◌, ◌≢◌}
use Rattle.syslog_value.specs.declared.facility.Facility.{Facility}
use Rattle.syslog_value.specs.Facilities.{facility_code, facility_name}
use Rattle.syslog_value.proofs.facility.Facility.from_name.Given as goal

-- none so far has the name
abbrev pub invariant-loop-facility : goal.invariant-loop-facility
invariant-loop-facility l = (facility : Facility) → facility_code facility < l.facility-index
    → facility_name facility ≢ l.name
