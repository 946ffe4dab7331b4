-- That a list of entries is an archive has one proof at most, as what a ghost field holds must.
use Rattle.std.proofs.Common.{ℕ, List, [], ◌∷◌, refl, subst}
use Rattle.std.specs.Prelude.{ℤ, Option, Some, None}
use Rattle.std.specs.List.{AllByRecursion-prop}
use Rattle.std.proofs.Props.{props}
use Rattle.syslog_value.specs.Parts.{Parts}
use Rattle.syslog_reading.proofs.Props.{canonical_prop, either_prop, octets_below_prop, record_prop, unique_prop}
use Rattle.syslog_grammar.proofs.CanonicalParses.{canonical_injective}
use Rattle.archive_text.specs.Entries.{Entry, InstantBelow, IsAscending, IsBelow, IsEntry, IsEntryOf}
use Rattle.archive_text.specs.Text.{IsArchive}
use Rattle.archive_text.proofs.Orders.{instant_irreflexive}
use mathlib.Core.HLevel.{×_prop, Unit-prop}

entry_of_prop : (r : Parts ℤ) (e : Entry) → IsProp (IsEntryOf r e)
entry_of_prop = hlevel (props, record_prop, canonical_prop)

entry_prop : (e : Entry) → IsProp (IsEntry e)
entry_prop e = unique_prop (λ r. entry_of_prop r e)
    (λ r q h k. (canonical_injective r q e.octets e.octets h.valid k.valid h.canonical k.canonical).1 refl)

instant_below_prop : (i j : Option ℤ) → IsProp (InstantBelow i j)
instant_below_prop None None = λ h k. absurd h
instant_below_prop None (Some j) = Unit-prop
instant_below_prop (Some i) None = λ h k. absurd h
instant_below_prop (Some i) (Some j) = hlevel props

below_prop : (a b : Entry) → IsProp (IsBelow a b)
below_prop a b = either_prop (instant_below_prop a.instant b.instant)
    (×_prop (hlevel props) (octets_below_prop a.octets b.octets))
    (λ h k. instant_irreflexive b.instant (subst (λ (i : Option ℤ). InstantBelow i b.instant) k.0 h))

ascending_prop : (es : List Entry) → IsProp (IsAscending es)
ascending_prop [] = Unit-prop
ascending_prop (e ∷ es) = ×_prop (AllByRecursion-prop _ (below_prop e) es) (ascending_prop es)

-- in one way at most
pub archive_prop : (most : ℕ) (es : List Entry) → IsProp (IsArchive most es)
archive_prop = hlevel (props, ascending_prop, entry_prop)
