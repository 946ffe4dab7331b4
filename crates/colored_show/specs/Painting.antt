-- Lines in the colors of severities.
use Rattle.std.specs.Prelude.{◌≡◌, ℕ, List, [], ◌∷◌, ◌++◌, codes}
use Rattle.std.specs.List.{AllByRecursion, flat_map}
use Rattle.syslog_frame.specs.Frames.{IsLine}
use Rattle.syslog_value.specs.declared.severity.Severity.{Severity}
use Rattle.syslog_value.specs.declared.severity.Severity.TheVariants.{Emergency, Alert, Critical, Error, Warning}
use Rattle.syslog_value.specs.declared.severity.Severity.TheVariants.{Notice, Informational, Debug}

-- the SGR sequence of these parameters: `ESC [`, the parameters, and `m`
abbrev pub sgr : List ℕ → List ℕ
sgr parameters = 27 ∷ 91 ∷ parameters ++ 109 ∷ []

-- the sequence before a line: bold red, red, yellow, bold, faint, or none
abbrev pub start_of : Severity → List ℕ
start_of Emergency = sgr (codes "1;31")
start_of Alert = sgr (codes "1;31")
start_of Critical = sgr (codes "1;31")
start_of Error = sgr (codes "31")
start_of Warning = sgr (codes "33")
start_of Notice = sgr (codes "1")
start_of Informational = []
start_of Debug = sgr (codes "2")

-- the sequence behind it resets what the one before it set
abbrev pub end_of : Severity → List ℕ
end_of Informational = []
end_of severity = sgr (codes "0")

-- a line with its line feed
abbrev pub ended_line : List ℕ → List ℕ
ended_line line = line ++ 10 ∷ []

-- a line between the sequences of a severity: the reset stands before the line feed, so that no pager
-- carries a color on to the next line
abbrev pub painted_line : Severity → List ℕ → List ℕ
painted_line severity line = start_of severity ++ line ++ end_of severity ++ 10 ∷ []

-- a text is painted line by line; what follows its last line feed stays as it is
pub record IsPainted (severity : Severity) (text painted : List ℕ) : Type 0 where
  pub lines : List (List ℕ)
  pub rest : List ℕ
  pub each : AllByRecursion IsLine lines
  pub last : IsLine rest
  pub text_is : text ≡ flat_map ended_line lines ++ rest
  pub painted_is : painted ≡ flat_map (painted_line severity) lines ++ rest
