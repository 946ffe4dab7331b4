-- Files of a folder that are left out.
use Rattle.std.specs.Prelude.{◌≡◌, ℕ, Bool, List, None, Vec, if◌then◌else◌, nat_eq}
use Rattle.std.specs.BTreeSet.{BTreeSet, contains_by}
use Rattle.std.specs.Cmp.Lexicographic.{pointwise, slice_cmp}
use Rattle.std.specs.List.{list_any}
use Rattle.std.specs.Ordering.{nat_cmp}
use Rattle.disk.specs.States.{Files}

-- whether a name is one of these
abbrev pub is_among : List (List ℕ) → List ℕ → Bool
is_among names name = list_any (pointwise nat_eq name) names

-- the files of a folder but for those under these names
abbrev pub files_without : List (List ℕ) → Files → Files
files_without names files name = if is_among names name then None else files name

-- a set has just these names
abbrev pub Indexes : {Y : Type 0} → BTreeSet (Vec ℕ Y) → List (List ℕ) → Type 0
Indexes index names = (name : List ℕ) → contains_by (λ k. slice_cmp nat_cmp name k.items) index ≡ is_among names name
