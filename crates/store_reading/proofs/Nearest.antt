-- The next of some days.
use Rattle.std.proofs.Common.{◌≡◌, ◌⊎◌, ℕ, List, Option, None, Some, inl, inr, refl, sym, subst}
use Rattle.std.specs.Prelude.{IsSomeAnd}
use Rattle.store_reading.specs.Days.{IsAfter, IsDayBelow, IsDayText}
use Rattle.store_reading.specs.Names.{AddsDay, HaveSegment, IsFirstDay, IsNextDay, IsNextSegment}
use Rattle.store_reading.proofs.DayOrders.{day_irreflexive, day_transitive}

-- ---- one day more

pub not_later : (last : Option (List ℕ)) (day : List ℕ) (next : Option (List ℕ)) → ¬ (IsAfter last day)
    → AddsDay last day next next
not_later last day next not =
    record { behind = λ h. h; day_found = λ h. absurd (not h); still = λ other h. h; one = inl refl }

pub first_day : (last : Option (List ℕ)) (day : List ℕ) → IsAfter last day → AddsDay last day None (Some day)
first_day last day after =
    record { behind = λ h. after; day_found = λ h. day_irreflexive day; still = λ other h. absurd h; one = inr refl }

pub nearer_day : (last : Option (List ℕ)) (day next : List ℕ) → IsAfter last day → IsDayBelow day next
    → AddsDay last day (Some next) (Some day)
nearer_day last day next after less = record {
  behind = λ h. after;
  day_found = λ h. day_irreflexive day;
  still = λ other h below. h (day_transitive other day next below less);
  one = inr refl;
}

pub farther_day : (last : Option (List ℕ)) (day next : List ℕ) → ¬ (IsDayBelow day next)
    → AddsDay last day (Some next) (Some next)
farther_day last day next not =
    record { behind = λ h. h; day_found = λ h. not; still = λ other h. h; one = inl refl }

-- ---- and the first entry of a text

pub no_first_day : (last : Option (List ℕ)) (names : List (List ℕ)) (text : List ℕ) (next first : Option (List ℕ))
    → IsNextSegment last names next → first ≡ None
    → ((day : List ℕ) → IsFirstDay text day → IsSomeAnd first (λ (found : List ℕ). found ≡ day))
    → IsNextDay last names text next
no_first_day last names text next first n none only = record {
  behind = n.behind;
  none_before = λ d text_is have after. go d text_is after have;
}
  where
    go : (d : List ℕ) → IsDayText d → IsAfter last d → HaveSegment names d ⊎ IsFirstDay text d
        → IsSomeAnd next (λ (x : List ℕ). ¬ (IsDayBelow d x))
    go d text_is after (inl have) = n.none_before d text_is have after
    go d text_is after (inr begins) =
        absurd (subst (λ (o : Option (List ℕ)). IsSomeAnd o (λ (found : List ℕ). found ≡ d)) none (only d begins))

pub with_first_day : (last : Option (List ℕ)) (names : List (List ℕ)) (text day : List ℕ) (next found : Option (List ℕ))
    → IsNextSegment last names next → ((d : List ℕ) → IsFirstDay text d → day ≡ d)
    → AddsDay last day next found → IsNextDay last names text found
with_first_day last names text day next found n only a = record {
  behind = a.behind n.behind;
  none_before = λ d text_is have after. go d text_is after have;
}
  where
    go : (d : List ℕ) → IsDayText d → IsAfter last d → HaveSegment names d ⊎ IsFirstDay text d
        → IsSomeAnd found (λ (x : List ℕ). ¬ (IsDayBelow d x))
    go d text_is after (inl have) = a.still d (n.none_before d text_is have after)
    go d text_is after (inr begins) =
        let same = only d begins in
        subst (λ (y : List ℕ). IsSomeAnd found (λ (x : List ℕ). ¬ (IsDayBelow y x))) same
        (a.day_found (subst (IsAfter last) (sym same) after))
