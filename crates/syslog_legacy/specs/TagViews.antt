-- What a tag says, without where it lies in memory.
use Rattle.std.specs.Prelude.{option_map}
use Rattle.syslog_legacy.specs.declared.tag.Tag.{Tag}
use Rattle.syslog_legacy.specs.Tags.{TagParts}

abbrev pub tag_parts : Tag → TagParts
tag_parts t = record { app_name = option_map (λ s. s.now) t.app_name; proc_id = option_map (λ s. s.now) t.proc_id }
