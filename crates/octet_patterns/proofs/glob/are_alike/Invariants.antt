use Rattle.std.proofs.Common.{ℕ, ◌<◌, length, slice_index}
use Rattle.octet_patterns.specs.Globs.{Fits}
use Rattle.octet_patterns.proofs.glob.are_alike.Given as goal

abbrev pub invariant-pieces : goal.invariant-pieces
invariant-pieces l = (k : ℕ) → k < length l.yielded → Fits (slice_index l.run k) (slice_index l.text k)
