use Rattle.std.proofs.Common.{◌≡◌, ℕ, get_or}
use Rattle.disk.specs.Files.{IsNoneOf}
use Rattle.disk.proofs.memory_file.spoil_at.Given as goal

abbrev pub invariant-loop-place : goal.invariant-loop-place
invariant-loop-place l = (k : ℕ) → IsNoneOf l.places k → get_or l.octets k 0 ≡ get_or l.initial.octets k 0
