use Rattle.std.proofs.Common.{◌∷◌, length}
use Rattle.std.specs.Prelude.{◌↔◌}
use Rattle.octet_patterns.specs.Globs.{IsLike}
use Rattle.octet_patterns.proofs.glob.ends_like.Given as goal

abbrev pub invariant-runs : goal.invariant-runs
invariant-runs l = IsLike (42 ∷ l.pattern) l.text ↔ IsLike (42 ∷ l.fn.pattern) l.fn.text

abbrev pub decreases-runs : goal.decreases-runs
decreases-runs l = length l.pattern
