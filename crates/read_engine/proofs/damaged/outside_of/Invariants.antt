use Rattle.std.proofs.Common.{◌⊎◌, List, ℕ, take}
use Rattle.std.specs.Prelude.{Contains}
use Rattle.read_engine.specs.Partial.{IsOutside, MayBeInside}
use Rattle.read_engine.proofs.damaged.outside_of.Given as goal

abbrev pub invariant-names : goal.invariant-names
invariant-names l = record {
  outside : (name : List ℕ) → Contains l.outside.items name → IsOutside l.fn.range name;
  others : (name : List ℕ) → Contains (take l.name-index l.names) name
      → Contains l.outside.items name ⊎ MayBeInside l.fn.range name;
}
