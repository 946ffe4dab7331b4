use Rattle.std.proofs.Common.{◌≡◌, ◌++◌, List, ℕ, length}
use Rattle.colored_show.specs.Painting.{IsPainted}
use Rattle.colored_show.proofs.painting.put_painted.Given as goal

-- what was appended goes on with whatever the rest is painted as
abbrev pub invariant-loop-line : goal.invariant-loop-line
invariant-loop-line l = (done : List ℕ) × (l.out.items ≡ l.initial.out.items ++ done)
    × ((painted : List ℕ) → IsPainted l.severity l.rest painted → IsPainted l.severity l.fn.text (done ++ painted))

abbrev pub decreases-loop-line : goal.decreases-loop-line
decreases-loop-line l = length l.rest
