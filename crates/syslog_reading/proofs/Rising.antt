-- Ids that rise, and the few that are kept.
use Rattle.std.proofs.Common.{◌≡◌, ℕ, zero, suc, ◌+◌, ◌<◌, List, [], ◌∷◌, length, take, map, sym}
use Rattle.std.proofs.Common.{get_or}
use Rattle.std.proofs.Common.{subst, add-one, arith, inl, inr, Bor}
use Rattle.std.specs.Prelude.{Option, Some, None}
use Rattle.std.specs.List.{AllByRecursion}
use Rattle.syslog_value.specs.Order.{OctetsBelow}
use Rattle.syslog_value.specs.Parts.{ElementParts, IsById}
use Rattle.syslog_value.proofs.Octets.{below_itself, below_trans}
use Rattle.syslog_reading.specs.FewIds.{IsNew}
use Rattle.syslog_reading.specs.Ids.{IsRisingFrom, ids_of, IsAbove, IsAtMost}

abbrev pub Lent : Type 0
Lent = Bor (List ℕ)

abbrev pub texts : List Lent → List (List ℕ)
texts ids = map (λ s. s.now) ids

-- ---- few ids

new_suc : (id : List ℕ) (n : ℕ) (d : Lent) (kept : List Lent) → n < length kept → ¬ ((get_or kept n d).now ≡ id)
    → IsNew id (texts (take n kept)) → IsNew id (texts (take (suc n) kept))
new_suc id n d [] less other h = absurd (omega arith)
new_suc id zero d (x ∷ kept) less other h = (other, tt)
new_suc id (suc n) d (x ∷ kept) less other h = (h.0, new_suc id n d kept (omega arith) other h.1)

-- the id is not the next one either
pub new_more : (id : List ℕ) (n : ℕ) (d : Lent) (kept : List Lent) → n < length kept → ¬ ((get_or kept n d).now ≡ id)
    → IsNew id (texts (take n kept)) → IsNew id (texts (take (n + 1) kept))
new_more id n d kept less other h = rw add-one (new_suc id n d kept less other h)

abbrev pub AllAbove : Option (List ℕ) → List ElementParts → Type 0
AllAbove met es = AllByRecursion (λ e. IsAbove e.id met) es

pub rising_of : (met : Option (List ℕ)) (es : List ElementParts) → AllAbove met es → IsById es
    → IsRisingFrom met (ids_of es)
rising_of met [] above by_id = tt
rising_of met (e ∷ es) above by_id = (above.0, rising_of (Some e.id) es by_id.0 by_id.1)

pub none_met : (es : List ElementParts) → AllAbove None es
none_met [] = tt
none_met (e ∷ es) = (tt, none_met es)

further : (met : Option (List ℕ)) (id : List ℕ) (es : List ElementParts) → IsAbove id met → AllAbove (Some id) es
    → AllAbove met es
further None id es a h = none_met es
further (Some g) id [] a h = tt
further (Some g) id (e ∷ es) a h = (below_trans g id e.id a h.0, further (Some g) id es a h.1)

pub of_rising : (met : Option (List ℕ)) (es : List ElementParts) → IsRisingFrom met (ids_of es)
    → AllAbove met es × IsById es
of_rising met [] h = (tt, tt)
of_rising met (e ∷ es) h =
    let deeper = of_rising (Some e.id) es h.1 in
    ((h.0, further met e.id es h.0 deeper.0), (deeper.0, deeper.1))

pub not_above : (id : List ℕ) (met : Option (List ℕ)) → IsAtMost id met → ¬ (IsAbove id met)
not_above id None h a = h
not_above id (Some g) (inl same) a = below_itself id (subst (λ (l : List ℕ). OctetsBelow l id) (sym same) a)
not_above id (Some g) (inr less) a = below_itself id (below_trans id g id less a)
