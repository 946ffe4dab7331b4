-- The lines on what is wrong with a ledger.
use Rattle.std.specs.Prelude.{ℕ, Bool, true, false, if◌then◌else◌, nat_eq, nat_lt, List, [], ◌∷◌, ◌++◌, Option, None, Some, codes, decimal, flat_map}
use Rattle.hex.specs.Hex.{encode_lower}
use Rattle.ledger_engine.specs.Findings.{missing_names}
use Rattle.ledger_engine.specs.declared.findings.LedgerFindings.{LedgerFindings}

-- an octet is printed as itself: from 32 to 126, but for the quote and the backslash
abbrev pub is_plain : ℕ → Bool
is_plain octet =
    if nat_lt octet 32 then false
    else (if nat_lt 126 octet then false else (if nat_eq octet 34 then false else (if nat_eq octet 92 then false else true)))

-- an octet as it is printed: as itself, or as \x and two hexadecimal digits
abbrev pub printed : ℕ → List ℕ
printed octet = if is_plain octet then octet ∷ [] else 92 ∷ 120 ∷ encode_lower (octet ∷ [])

-- the line on the file of a name, by the words behind it
abbrev pub name_line : List ℕ → List ℕ → List ℕ
name_line words name = flat_map printed name ++ words

-- a line on each name, in their order
abbrev pub name_lines : List ℕ → List (List ℕ) → List ℕ
name_lines words names = flat_map (name_line words) names

-- the line on the octet at which the first line begins that is none, where there is one
abbrev pub break_line : Option ℕ → List ℕ
break_line None = []
break_line (Some at) = codes "ledger " ++ decimal at ++ codes "\n"

-- the line on a line that the ledger has to have
abbrev pub lack_line : Bool → List ℕ
lack_line lacks = if lacks then codes "ledger lacks the line\n" else []

-- a line on each thing that is wrong: on the ledger itself, and on the files that are missing, not listed and foreign
abbrev pub finding_text : LedgerFindings → List ℕ
finding_text f =
    break_line f.broken ++ lack_line f.lacks_line ++ name_lines (codes " missing\n") (missing_names f)
    ++ name_lines (codes " unlisted\n") f.unlisted.items ++ name_lines (codes " foreign\n") f.foreign.items
