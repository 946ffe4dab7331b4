-- The entries of an archive, and their order.
use Rattle.std.specs.Prelude.{◌≡◌, ℕ, ℤ, ◌<ℤ◌, List, [], ◌∷◌, Option, Some, None, ◌⊎◌, ⊤}
use Rattle.std.specs.List.{AllByRecursion}
use Rattle.std.specs.declared.cmp.Ordering.{Ordering}
use Rattle.std.specs.declared.cmp.Ordering.TheVariants.{Less, Equal, Greater}
use Rattle.syslog_value.specs.Order.{OctetsBelow}
use Rattle.syslog_value.specs.Parts.{IsRecord, Parts}
use Rattle.syslog_fields.specs.Canonical.{Canonical}

-- an instant or none, and the canonical octets of a record
pub record Entry : Type 0 where
  pub instant : Option ℤ
  pub octets : List ℕ

-- the entry of a record
pub record IsEntryOf (r : Parts ℤ) (e : Entry) : Type 0 where
  pub valid : IsRecord r
  pub instant : e.instant ≡ r.time
  pub canonical : Canonical r e.octets

-- the entry of some record
abbrev pub IsEntry : Entry → Type 0
IsEntry e = (r : Parts ℤ) × IsEntryOf r e

-- none before every instant, then the earlier instant
abbrev pub InstantBelow : Option ℤ → Option ℤ → Type 0
InstantBelow None None = ⊥
InstantBelow None (Some j) = ⊤
InstantBelow (Some i) None = ⊥
InstantBelow (Some i) (Some j) = i <ℤ j

-- what a comparison of instants answers
abbrev pub IsInstantOrder : Ordering → Option ℤ → Option ℤ → Type 0
IsInstantOrder Less a b = InstantBelow a b
IsInstantOrder Equal a b = a ≡ b
IsInstantOrder Greater a b = InstantBelow b a

-- by instant, then by octets
abbrev pub IsBelow : Entry → Entry → Type 0
IsBelow a b =
    InstantBelow a.instant b.instant ⊎ ((a.instant ≡ b.instant) × OctetsBelow a.octets b.octets)

-- what a comparison answers
abbrev pub IsOrder : Ordering → Entry → Entry → Type 0
IsOrder Less a b = IsBelow a b
IsOrder Equal a b = a ≡ b
IsOrder Greater a b = IsBelow b a

-- each entry is below all that follow it, so none comes twice
abbrev pub IsAscending : List Entry → Type 0
IsAscending [] = ⊤
IsAscending (e ∷ es) = AllByRecursion (IsBelow e) es × IsAscending es

-- the entry is one of the list
abbrev pub Has : List Entry → Entry → Type 0
Has [] x = ⊥
Has (e ∷ es) x = (e ≡ x) ⊎ Has es x
