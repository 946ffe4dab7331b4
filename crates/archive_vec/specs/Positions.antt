-- Where an entry stands among ascending ones.
use Rattle.std.specs.Prelude.{◌≡◌, ℕ, ◌≤◌, List, length, take, drop, slice_get, Some, Result, Ok, Err}
use Rattle.std.specs.List.{AllByRecursion}
use Rattle.archive_text.specs.Entries.{Entry, IsBelow}

-- the entry goes between those before an index and those from it on
pub record IsGap (es : List Entry) (e : Entry) (i : ℕ) : Type 0 where
  pub within : i ≤ length es
  pub below : AllByRecursion (λ x. IsBelow x e) (take i es)
  pub above : AllByRecursion (IsBelow e) (drop i es)

-- the entry is the one at an index, or goes to one
abbrev pub IsFound : List Entry → Entry → Result ℕ ℕ → Type 0
IsFound es e (Ok i) = slice_get es i ≡ Some e
IsFound es e (Err i) = IsGap es e i
