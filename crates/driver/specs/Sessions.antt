-- What a session makes of its input.
use Rattle.std.specs.Prelude.{◌≡◌, ℕ, ◌+◌, ◌≤◌, List, [], ◌++◌, length, Result, MatchResult}
use Rattle.driver.specs.Effects.{Done, IsPrefixOf, nothing, then_done, written}
use Rattle.driver.specs.declared.limits.TheConstants.{INPUT_MAX}
use Rattle.driver.specs.declared.session.Flow.{Flow}
use Rattle.driver.specs.declared.session.Flow.TheVariants.{Continue, Finished}

-- what comes of an input: of its first octets, where the session goes on; of some of what they hold, where memory ran
-- out; and of the whole input
pub record Meaning : Type 1 where
  pub so_far : List ℕ → Done → Type 0
  pub part : List ℕ → Done → Type 0
  pub whole : List ℕ → Done → Type 0

-- an input has one output, and what comes of its first octets is a prefix of it
pub record HasOneOutput (M : Meaning) : Type 0 where
  pub one : (input : List ℕ) (d e : Done) → M.whole input d → M.whole input e → d.output ≡ e.output
  pub grows : (given more : List ℕ) (d e : Done) → M.so_far given d → M.whole (given ++ more) e
      → IsPrefixOf d.output e.output
  pub begins : (given more : List ℕ) (d e : Done) → M.part given d → M.whole (given ++ more) e
      → IsPrefixOf d.output e.output

-- a session at its beginning: no octet was given to it, and nothing came of that
abbrev pub HasBegun : (List ℕ → Type 0) → Meaning → Type 0
HasBegun S M = S [] × M.so_far [] nothing

-- the most octets that a run gives to a session
abbrev pub most_octets : ℕ
most_octets = INPUT_MAX

-- what was done, and then the rest of the output
abbrev pub with_rest : Done → List ℕ → Done
with_rest d rest = then_done d (written rest [])

-- what was done with the octets so far, where the session goes on, or needs no more and has this rest left to write
abbrev pub Goes : Flow → (List ℕ → Type 0) → List ℕ → Meaning → List ℕ → Done → Type 0
Goes Continue S rest M given d = S given × M.so_far given d
Goes Finished S rest M given d = (more : List ℕ) → M.whole (given ++ more) (with_rest d rest)

-- what a piece does to a session, of which `before` was written already
abbrev pub Takes : {E : Type 0} → (List ℕ → Type 0) → (List ℕ → Type 0) → List ℕ → Meaning → List ℕ → Done → Done
    → Result Flow E → Type 0
Takes old new rest M piece held kept r =
    (given : List ℕ) (before : Done) → old given → M.so_far given (then_done before held)
    → length given + length piece ≤ most_octets
    → MatchResult r (λ flow. Goes flow new rest M (given ++ piece) (then_done before kept))
    (λ _. M.part (given ++ piece) (then_done before kept))

-- what the end of the input does to it, which then has this rest left to write
abbrev pub Ends : {U E : Type 0} → (List ℕ → Type 0) → List ℕ → Meaning → Done → Done → Result U E → Type 0
Ends old rest M held kept r =
    (given : List ℕ) (before : Done) → old given → M.so_far given (then_done before held)
    → MatchResult r (λ _. M.whole given (with_rest (then_done before kept) rest))
    (λ _. M.part given (then_done before kept))
