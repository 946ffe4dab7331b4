-- Names in turn.
use Rattle.std.specs.Prelude.{◌⊎◌, ℕ, List, Contains}
use Rattle.store_expiry.specs.Lines.{AreApart}

-- a list has the names of another one, each of them once
pub record AreOnce (names each : List (List ℕ)) : Type 0 where
  pub all : (name : List ℕ) → Contains names name → Contains each name
  pub only : (name : List ℕ) → Contains each name → Contains names name
  pub apart : AreApart each

-- names are in two lists, each of them once
pub record ArePartedIn (names days others : List (List ℕ)) : Type 0 where
  pub all : (name : List ℕ) → Contains names name → Contains days name ⊎ Contains others name
  pub only : (name : List ℕ) → Contains days name ⊎ Contains others name → Contains names name
  pub days_apart : AreApart days
  pub others_apart : AreApart others
  pub apart : (name : List ℕ) → Contains days name → Contains others name → ⊥
