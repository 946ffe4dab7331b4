-- The lines that are printed.
use Rattle.std.specs.Prelude.{ℕ, List, ◌++◌, codes, decimal}
use Rattle.syslog_reading.specs.declared.fault.Fault.{Fault}
use Rattle.syslog_reading.specs.declared.fault.Fault.TheVariants.{Syntax, InstantRange, RepeatedId}
use Rattle.syslog_reading.specs.declared.fault.Field.{Field}
use Rattle.syslog_reading.specs.declared.fault.Field.TheVariants as field
use Rattle.frame_engine.specs.declared.line.Line.{Line}
use Rattle.frame_engine.specs.declared.line.Line.TheVariants.{Accepted, LegacyNotUtf8, Refused, TooLong, BadCount}
use Rattle.frame_engine.specs.declared.line.Line.TheVariants.{HasLf, CanonicalTooLong, Unterminated}

-- the name of a field
abbrev pub field_name : Field → List ℕ
field_name field.Priority = codes "priority"
field_name field.Version = codes "version"
field_name field.Timestamp = codes "timestamp"
field_name field.Hostname = codes "hostname"
field_name field.AppName = codes "app-name"
field_name field.ProcId = codes "procid"
field_name field.MsgId = codes "msgid"
field_name field.StructuredData = codes "structured-data"
field_name field.Message = codes "message"

-- a fault with its offset
abbrev pub fault_text : Fault → List ℕ
fault_text (Syntax f at) = codes "syntax " ++ field_name f ++ codes " " ++ decimal at
fault_text (InstantRange at) = codes "instant-range " ++ decimal at
fault_text (RepeatedId at) = codes "repeated-id " ++ decimal at

-- a line, with its line feed
abbrev pub line_text : Line → List ℕ
line_text (Accepted n) = decimal n ++ codes " ok\n"
line_text (Refused n fault) = decimal n ++ codes " " ++ fault_text fault ++ codes "\n"
line_text (LegacyNotUtf8 n offset) = decimal n ++ codes " legacy-not-utf8 " ++ decimal offset ++ codes "\n"
line_text (TooLong n) = decimal n ++ codes " too-long\n"
line_text (BadCount n at) = decimal n ++ codes " bad-count " ++ decimal at ++ codes "\n"
line_text (HasLf n) = decimal n ++ codes " has-lf\n"
line_text (CanonicalTooLong n) = decimal n ++ codes " canonical-too-long\n"
line_text (Unterminated start) = codes "unterminated " ++ decimal start ++ codes "\n"
