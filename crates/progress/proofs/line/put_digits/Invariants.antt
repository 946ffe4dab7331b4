use Rattle.std.proofs.Common.{◌≡◌, ◌++◌, List, ℕ, length}
use Rattle.progress.specs.Line.{with_commas}
use Rattle.progress.proofs.line.put_digits.Given as goal

-- what was appended, and what is left, make the digits with their commas
abbrev pub invariant-loop-digit : goal.invariant-loop-digit
invariant-loop-digit l = (text : List ℕ) × (l.out.items ≡ l.initial.out.items ++ text)
    × (text ++ with_commas l.rest ≡ with_commas l.fn.digits)

abbrev pub decreases-loop-digit : goal.decreases-loop-digit
decreases-loop-digit l = length l.rest
