-- Where a message that starts with the BOM stops to be UTF-8.
use Rattle.std.specs.Prelude.{◌≡◌, ℕ, ◌+◌, List, ◌++◌}
use Rattle.octet_language.specs.Language.{IsFaultOffset}
use Rattle.syslog_value.specs.Parts.{bom}
use Rattle.syslog_fields.specs.Utf8.{IsText}

-- the BOM and no text, and no text goes on at this offset
abbrev pub MessageStops : List ℕ → ℕ → Type 0
MessageStops b offset =
    (text : List ℕ) × (within : ℕ) × (b ≡ bom ++ text) × ¬ (IsText text) × IsFaultOffset IsText text within
    × (offset ≡ 3 + within)
