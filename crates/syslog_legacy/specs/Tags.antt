-- TAG of a legacy packet (RFC 3164, 4.1.3): NAME: or NAME[PROCID]: before the message.
use Rattle.std.specs.Prelude.{◌≡◌, ◌≢◌, ℕ, ◌≤◌, List, [], ◌∷◌, ◌⊎◌, Option, None}
use Rattle.octet_language.specs.Language.{Language, Only, ◌⋅◌}
use Rattle.octet_language.specs.Reading.{Follows}
use Rattle.syslog_value.specs.Parts.{IsPrintable}
use Rattle.syslog_legacy.specs.Hosts.{NilableRun}
use Rattle.syslog_legacy.specs.Parts.{Without}

-- a letter, a digit, "-", "_", "." or "/"
abbrev pub IsTagOctet : ℕ → Type 0
IsTagOctet x =
    ((65 ≤ x) × (x ≤ 90)) ⊎ (((97 ≤ x) × (x ≤ 122))
    ⊎ (((48 ≤ x) × (x ≤ 57)) ⊎ ((x ≡ 45) ⊎ ((x ≡ 95) ⊎ ((x ≡ 46) ⊎ (x ≡ 47))))))

-- printable, and no closing bracket
abbrev pub IsProcOctet : ℕ → Type 0
IsProcOctet x = IsPrintable x × (x ≢ 93)

-- what a tag says
pub record TagParts : Type 0 where
  pub app_name : Option (List ℕ)
  pub proc_id : Option (List ℕ)

-- a process id and the bracket that closes it
abbrev pub Bracketed : Option (List ℕ) → Language
Bracketed proc_id = NilableRun IsProcOctet 128 proc_id ⋅ Only (93 ∷ [])

-- a colon, or a process id in brackets and a colon
abbrev pub ProcText : Option (List ℕ) → Language
ProcText proc_id b = ((proc_id ≡ None) × (b ≡ 58 ∷ [])) ⊎ (Only (91 ∷ []) ⋅ Bracketed proc_id ⋅ Only (58 ∷ [])) b

-- NAME: or NAME[PROCID]:, where no more octets of a name follow the name, since "[" and ":" are none
abbrev pub TagText : TagParts → Language
TagText t = NilableRun IsTagOctet 48 t.app_name ⋅ ProcText t.proc_id

-- without the space that comes first, if one does
abbrev pub BehindSpace : List ℕ → List ℕ → Type 0
BehindSpace = Without 32

-- a tag comes first, and what follows it and one space
abbrev pub Tag : TagParts → List ℕ → List ℕ → Type 0
Tag t b rest = (behind : List ℕ) × Follows (TagText t) b behind × BehindSpace behind rest
