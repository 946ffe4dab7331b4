-- Where texts lie in octets.
use Rattle.std.specs.Prelude.{◌≡◌, ℕ, List, ◌++◌, length, Option, Some, None}
use Rattle.c_library.specs.declared.span.SyslogboxSpan.{SyslogboxSpan}

-- the text stands there, behind so many octets
pub record LiesAt (b : List ℕ) (at : ℕ) (text : List ℕ) : Type 0 where
  pub before : List ℕ
  pub behind : List ℕ
  pub parts : b ≡ before ++ (text ++ behind)
  pub at_is : at ≡ length before

-- the octets of the span are the text
pub record Spans (b : List ℕ) (span : SyslogboxSpan) (text : List ℕ) : Type 0 where
  pub lies : LiesAt b span.offset text
  pub len_is : span.len ≡ length text

-- the octets of the span are the word; or there is none, and the span has no octets
abbrev pub SpansWord : List ℕ → SyslogboxSpan → Option (List ℕ) → Type 0
SpansWord b span None = (span.offset ≡ 0) × (span.len ≡ 0)
SpansWord b span (Some w) = Spans b span w
