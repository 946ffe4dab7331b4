-- HOSTNAME of a legacy packet (RFC 3164, 4.1.2): what stands between the timestamp and a space, or the end.
use Rattle.std.specs.Prelude.{◌≡◌, ◌≢◌, ℕ, List, [], ◌∷◌, ◌++◌, ◌⊎◌, ◌<◌, ◌≤◌, length, Option, Some, None}
use Rattle.std.specs.List.{AllByRecursion}
use Rattle.octet_language.specs.Language.{Language, IfFirst}
use Rattle.syslog_value.specs.Parts.{IsPrintable}
use Rattle.syslog_fields.specs.Spans.{IsRun}

-- what octets say: the one octet "-" is NILVALUE
abbrev pub IsNilable : Option (List ℕ) → List ℕ → Type 0
IsNilable None b = b ≡ 45 ∷ []
IsNilable (Some w) b = (b ≢ 45 ∷ []) × (b ≡ w)

-- one to n octets of a class, or NILVALUE
abbrev pub NilableRun : (ℕ → Type 0) → ℕ → Option (List ℕ) → Language
NilableRun C n word b = IsRun C n b × IsNilable word b

-- the octets of a class that come first, n at most; fewer where another octet follows, or none
pub record SplitsRun (C : ℕ → Type 0) (n : ℕ) (b run rest : List ℕ) : Type 0 where
  pub parts : b ≡ run ++ rest
  pub most : length run ≤ n
  pub octets : AllByRecursion C run
  pub ends : length run < n → IfFirst (λ x. ¬ (C x)) rest

-- one to 255 printable octets, then a space and the rest, or the end; so no printable octet follows them
abbrev pub Host : Option (List ℕ) → List ℕ → List ℕ → Type 0
Host host b rest =
    (text : List ℕ) × NilableRun IsPrintable 255 host text
    × ((b ≡ text ++ 32 ∷ rest) ⊎ ((b ≡ text) × (rest ≡ [])))
