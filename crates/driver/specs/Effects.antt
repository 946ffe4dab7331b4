-- What comes of an input.
use Rattle.std.specs.Prelude.{◌≡◌, ℕ, List, [], ◌++◌, Bool, false, ◌||◌, if◌then◌else◌}
use Rattle.driver.specs.declared.effects.Effects.{Effects}

-- what comes of an input: whether something was refused, the output, and the diagnostics
pub record Done : Type 0 where
  pub refused : Bool
  pub output : List ℕ
  pub diagnostics : List ℕ

abbrev pub nothing : Done
nothing = record { refused = false; output = []; diagnostics = [] }

-- one after the other
abbrev pub then_done : Done → Done → Done
then_done a b = record { refused = a.refused || b.refused; output = a.output ++ b.output; diagnostics = a.diagnostics ++ b.diagnostics }

-- output and diagnostics that were written
abbrev pub written : List ℕ → List ℕ → Done
written output diagnostics = record { refused = false; output = output; diagnostics = diagnostics }

-- what is held back, without the scratch buffer
abbrev pub done_of : Effects → Done
done_of e = record { refused = e.refused; output = e.output.items; diagnostics = e.diagnostics.items }

-- an outcome after what was done before
abbrev pub Adds : (Done → Type 0) → Done → Done → Type 0
Adds D old new = (d : Done) × D d × (new ≡ then_done old d)

-- nothing is left to write
pub record IsWrittenOut (held : Done) : Type 0 where
  pub output : held.output ≡ []
  pub diagnostics : held.diagnostics ≡ []

-- the exit status of what was done
abbrev pub status_of : Done → ℕ
status_of d = if d.refused then 1 else 0

-- one text begins with the other
abbrev pub IsPrefixOf : List ℕ → List ℕ → Type 0
IsPrefixOf xs ys = (rest : List ℕ) × (ys ≡ xs ++ rest)
