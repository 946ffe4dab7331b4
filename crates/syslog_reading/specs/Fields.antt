-- The fields of a header without where they lie in memory.
use Rattle.std.specs.Prelude.{◌≡◌, ℕ, List, length, option_map}
use Rattle.octet_language.specs.Language.{Language, ◌⋅◌, AnyOf}
use Rattle.octet_language.specs.Reading.{Follows}
use Rattle.syslog_fields.specs.Dates.{time_of}
use Rattle.syslog_fields.specs.Grammar.{HeaderParts, Nilable, Priority, Spaced, Version, WordFields}
use Rattle.syslog_fields.specs.Time.{TimeText}
use Rattle.syslog_reading.specs.declared.header.HeaderFields.{HeaderFields}

abbrev pub header_parts : HeaderFields → HeaderParts
header_parts h = record {
  priority = h.priority;
  time = option_map time_of h.time;
  hostname = option_map (λ s. s.now) h.hostname;
  app_name = option_map (λ s. s.now) h.app_name;
  proc_id = option_map (λ s. s.now) h.proc_id;
  msg_id = option_map (λ s. s.now) h.msg_id;
}

-- the texts of the words of a header and their spaces
abbrev pub words_of : HeaderParts → Language
words_of h = WordFields h.hostname h.app_name h.proc_id h.msg_id

-- the texts of what comes before the words: PRI, VERSION, the timestamp, and their spaces
abbrev pub before_words : HeaderParts → Language
before_words h = Priority h.priority ⋅ Spaced Version ⋅ Spaced (Nilable TimeText h.time)

-- so many octets are left after PRI, VERSION and the space
abbrev pub TimeStands : List ℕ → ℕ → Type 0
TimeStands b remaining = (rest : List ℕ) × Follows (AnyOf Priority ⋅ Spaced Version) b rest × (length rest ≡ remaining)
