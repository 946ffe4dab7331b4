-- The front that tells a record of RFC 5424 from a legacy one.
use Rattle.std.specs.Prelude.{ℕ, List}
use Rattle.octet_language.specs.Language.{◌⋅◌, AnyOf}
use Rattle.octet_language.specs.Reading.{Follows}
use Rattle.syslog_fields.specs.Grammar.{Priority, Spaced, Version}

-- PRI, VERSION and a space come first (RFC 5424, 6.2)
abbrev pub HasNewForm : List ℕ → Type 0
HasNewForm b = (rest : List ℕ) × Follows (AnyOf Priority ⋅ Spaced Version) b rest
