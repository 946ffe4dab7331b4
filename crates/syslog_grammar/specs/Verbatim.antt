-- The canonical octets of a record that lie in the octets of a view.
use Rattle.std.specs.Prelude.{◌≡◌, ℕ, List, [], ◌∷◌}
use Rattle.octet_language.specs.Language.{Language, Only, ◌⋅◌}
use Rattle.syslog_value.specs.Parts.{MessageParts}
use Rattle.syslog_fields.specs.Canonical.{HeaderForm, TimeForm, priority_version_form, message_form}
use Rattle.syslog_fields.specs.Grammar.{MessagePart}
use Rattle.syslog_reading.specs.ViewParts.{ViewParts}

-- each tail of the message is the canonical one
abbrev pub HasOneMessageForm : MessageParts → Type 0
HasOneMessageForm m = (message_part : List ℕ) → MessagePart m message_part → message_part ≡ message_form m

-- the canonical header of what is shown, and the space that follows it
abbrev pub ShownHeader : ViewParts → Language
ShownHeader s = HeaderForm s.priority s.instant s.hostname s.app_name s.proc_id s.msg_id

-- PRI, VERSION and the timestamp in their canonical form, and then what follows it
unfoldable pub VerbatimForm : ViewParts → Language
VerbatimForm s = Only (priority_version_form s.priority) ⋅ TimeForm s.instant ⋅ Only (32 ∷ []) ⋅ Only s.behind_time
