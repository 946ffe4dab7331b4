-- What precedes a message, without where it lies in memory.
use Rattle.std.specs.Prelude.{option_map}
use Rattle.syslog_legacy.specs.declared.front.Front.{Front}
use Rattle.syslog_legacy.specs.Splits.{FrontParts}

abbrev pub front_parts : Front → FrontParts
front_parts f = record {
  priority = f.priority;
  time = f.instant;
  hostname = option_map (λ s. s.now) f.hostname;
  app_name = option_map (λ s. s.now) f.app_name;
  proc_id = option_map (λ s. s.now) f.proc_id;
}
