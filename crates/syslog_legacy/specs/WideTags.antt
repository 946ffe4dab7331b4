-- HOSTNAME and TAG of a packet in the wide dialect.
use Rattle.std.specs.Prelude.{◌≡◌, ℕ, List, [], ◌∷◌, ◌++◌, ◌⊎◌, Option, None}
use Rattle.octet_language.specs.Language.{Language, Only, ◌⋅◌, AnyOf}
use Rattle.octet_language.specs.Reading.{Follows}
use Rattle.syslog_value.specs.Parts.{IsPrintable}
use Rattle.syslog_legacy.specs.Hosts.{Host, NilableRun, SplitsRun}
use Rattle.syslog_legacy.specs.Parts.{Part}
use Rattle.syslog_legacy.specs.Tags.{Bracketed, IsTagOctet, Tag, TagParts, TagText}

-- NAME[PROCID]
abbrev pub BracketedTag : TagParts → Language
BracketedTag t = NilableRun IsTagOctet 48 t.app_name ⋅ Only (91 ∷ []) ⋅ Bracketed t.proc_id

-- a tag, or NAME[PROCID] and a space in place of the colon
abbrev pub WideTag : Part TagParts
WideTag t b rest = Tag t b rest ⊎ Follows (BracketedTag t) b (32 ∷ rest)

-- the word of a tag: NAME:, NAME[PROCID]: or NAME[PROCID]
abbrev pub IsTagWord : List ℕ → Type 0
IsTagWord word = AnyOf TagText word ⊎ AnyOf BracketedTag word

abbrev pub EndsInColon : List ℕ → Type 0
EndsInColon word = (before : List ℕ) × (word ≡ before ++ 58 ∷ [])

-- the printable octets that come first, 255 at most, are the word of a tag: then there is no host, and the octets go on
-- with it; or they do not end in a colon, and are a host
abbrev pub WideHost : Part (Option (List ℕ))
WideHost host b rest =
    (word : List ℕ) × (left : List ℕ) × SplitsRun IsPrintable 255 b word left
    × ((IsTagWord word × (host ≡ None) × (rest ≡ b)) ⊎ (¬ (IsTagWord word) × ¬ (EndsInColon word) × Host host b rest))
