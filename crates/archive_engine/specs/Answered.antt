-- What a command writes of an input.
use Rattle.std.specs.Prelude.{◌≡◌, ℕ, List, Option, IfSome, take}
use Rattle.std.specs.Io.KnownBytes.{Appends}
use Rattle.driver.specs.Effects.{Done, status_of}

-- the status, the output and the diagnostics are what comes of the input
abbrev pub AnswersWith : (List ℕ → Done → Type 0) → Option (List ℕ) → ℕ → Option (List ℕ) → Option (List ℕ)
    → Option (List ℕ) → Option (List ℕ) → Type 0
AnswersWith A left status taken_old taken_new told_old told_new =
    IfSome left (λ input. (d : Done) × A input d × (status ≡ status_of d)
    × Appends taken_old taken_new d.output × Appends told_old told_new d.diagnostics)

-- a prefix of what the output of the input is was written
abbrev pub WritesPrefixOf : (List ℕ → Done → Type 0) → Option (List ℕ) → Option (List ℕ) → Option (List ℕ) → Type 0
WritesPrefixOf A left taken_old taken_new =
    IfSome left (λ input. (d : Done) → A input d → (n : ℕ) × Appends taken_old taken_new (take n d.output))
