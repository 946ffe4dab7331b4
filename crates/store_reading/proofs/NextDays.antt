-- The next day, and what is behind the last one.
use Rattle.std.proofs.Common.{◌≡◌, ◌⊎◌, ℕ, List, [], ◌∷◌, ◌++◌, Option, None, Some, inl, inr, refl, sym, subst}
use Rattle.std.proofs.Common.{◌∙◌}
use Rattle.std.specs.List.{AllByRecursion}
use Rattle.archive_text.specs.Entries.{Entry}
use Rattle.archive_text.specs.Text.{IsArchive, text_of}
use Rattle.archive_text.specs.declared.limits.TheConstants.{ENTRY_MAX}
use Rattle.archive_text.proofs.Ascending.{ascending_across}
use Rattle.archive_text.proofs.Orders.{below_asymmetric}
use Rattle.store_reading.specs.Days.{IsAfter, IsDayBelow, IsOf}
use Rattle.store_reading.specs.Names.{IsFirstDay}
use Rattle.store_reading.specs.Parts.{BeginsElsewhere}
use Rattle.store_reading.proofs.DayOrders.{day_irreflexive, day_total, day_transitive, entry_order, one_day}

pub after_or_not : (last : Option (List ℕ)) (day : List ℕ) → IsAfter last day ⊎ ¬ (IsAfter last day)
after_or_not None day = inl tt
after_or_not (Some l) day = go (day_total l day)
  where
    go : IsDayBelow l day ⊎ ((l ≡ day) ⊎ IsDayBelow day l) → IsDayBelow l day ⊎ ¬ (IsDayBelow l day)
    go (inl after) = inl after
    go (inr (inl same)) = inr (λ h. day_irreflexive day (subst (λ (d : List ℕ). IsDayBelow d day) same h))
    go (inr (inr before)) = inr (λ h. day_irreflexive l (day_transitive l day l h before))

-- a day up to the last one comes before each behind it
pub up_to : (last : Option (List ℕ)) (d day : List ℕ) → ¬ (IsAfter last d) → IsAfter last day → IsDayBelow d day
up_to None d day not after = absurd (not tt)
up_to (Some l) d day not after = go (day_total l d)
  where
    go : IsDayBelow l d ⊎ ((l ≡ d) ⊎ IsDayBelow d l) → IsDayBelow d day
    go (inl more) = absurd (not more)
    go (inr (inl same)) = subst (λ (x : List ℕ). IsDayBelow x day) same after
    go (inr (inr less)) = day_transitive d l day less after

-- and so it is up to that
pub still_up_to : (last : Option (List ℕ)) (d day : List ℕ) → ¬ (IsAfter last d) → IsAfter last day
    → ¬ (IsAfter (Some day) d)
still_up_to last d day not after h = day_irreflexive day (day_transitive day d day h (up_to last d day not after))

-- the first entry is of a day behind the last one
abbrev pub HeadAfter : Option (List ℕ) → List Entry → Type 0
HeadAfter last [] = Unit {0}
HeadAfter last (e ∷ es) = (day : List ℕ) → IsOf day e → IsAfter last day

-- behind the entries of a day the first one is of a day behind it
pub head_after : (last : Option (List ℕ)) (day text : List ℕ) (xs ys : List Entry) → IsArchive ENTRY_MAX (xs ++ ys)
    → text ≡ text_of (xs ++ ys) → AllByRecursion (IsOf day) xs → BeginsElsewhere day ys → HeadAfter last (xs ++ ys)
    → ((d : List ℕ) → IsFirstDay text d → IsAfter last d → ¬ (IsDayBelow d day)) → HeadAfter (Some day) ys
head_after last day text xs [] archive is of other head none = tt
head_after last day text [] (y ∷ ys) archive is of (o, lies, apart) head none = λ d lying. go d lying (day_total day d)
  where
    go : (d : List ℕ) → IsOf d y → IsDayBelow day d ⊎ ((day ≡ d) ⊎ IsDayBelow d day) → IsDayBelow day d
    go d lying (inl after) = after
    go d lying (inr (inl same)) = absurd (apart (one_day o d y lies lying ∙ sym same))
    go d lying (inr (inr before)) = absurd (none d (y, ys, archive, is, lying) (head d lying) before)
head_after last day text (x ∷ xs) (y ∷ ys) archive is of (o, lies, apart) head none = λ d lying. go d lying
    (day_total day d)
  where
    go : (d : List ℕ) → IsOf d y → IsDayBelow day d ⊎ ((day ≡ d) ⊎ IsDayBelow d day) → IsDayBelow day d
    go d lying (inl after) = after
    go d lying (inr (inl same)) = absurd (apart (one_day o d y lies lying ∙ sym same))
    go d lying (inr (inr before)) = absurd (below_asymmetric x y
        (ascending_across (x ∷ xs) (y ∷ ys) x y archive.ascending (inl refl) (inl refl))
        (entry_order d day y x lying of.0 before))
