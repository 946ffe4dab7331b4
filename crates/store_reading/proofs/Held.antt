-- What a folder holds is what its journals and the segments of its days have.
use Rattle.std.proofs.Common.{◌≡◌, ◌⊎◌, ℕ, List, [], ◌∷◌, ◌++◌, Option, None, Some, inl, inr, refl, sym, ap, subst, arith, length}
use Rattle.std.specs.Prelude.{Contains, IsSome, IsSomeAnd, codes}
use Rattle.std.proofs.lemmas.List.Elements.{Contains-append_left, Contains-push, Contains-push_cases}
use Rattle.disk.specs.States.{Files}
use Rattle.archive_text.specs.Entries.{Entry}
use Rattle.archive_text.proofs.Members.{of_member}
use Rattle.archive_sets.specs.declared.range.InRange.{InRange}
use Rattle.archive_join.specs.Ranges.{IsOfRange}
use Rattle.record_store.specs.Holdings.{Held, HeldAt, IsOfPeriod, JournalHas, SegmentHas}
use Rattle.record_store.specs.Names.{IsJournal, IsSegment}
use Rattle.store_reading.specs.Days.{IsDayText, IsOf}
use Rattle.store_reading.specs.Folders.{AreNamesOf}
use Rattle.store_reading.specs.Journals.{MemoryHas}
use Rattle.store_reading.specs.Names.{HaveSegment, SomeName}
use Rattle.store_reading.specs.Segments.{DayHas, HasAsSegment}

-- ---- names

pub no_name : (P : List ℕ → Type 0) → ¬ (SomeName [] P)
no_name P (name, (k, below, same), p) = omega (arith, below)

pub some_before : (names : List (List ℕ)) (last : List ℕ) (P : List ℕ → Type 0) → SomeName names P
    → SomeName (names ++ last ∷ []) P
some_before names last P (name, has, p) = (name, Contains-append_left names (last ∷ []) name has, p)

pub some_last : (names : List (List ℕ)) (last : List ℕ) (P : List ℕ → Type 0) → P last → SomeName (names ++ last ∷ []) P
some_last names last P p = (last, Contains-push names last, p)

pub some_either : (names : List (List ℕ)) (last : List ℕ) (P : List ℕ → Type 0) → SomeName (names ++ last ∷ []) P
    → SomeName names P ⊎ P last
some_either names last P (name, has, p) =
    elim (Contains-push_cases names last name has) [
      | inl before ↦ inl (name, before, p)
      | inr is ↦ inr (subst P (sym is) p)
    ]

some_is : (o : Option (List ℕ)) (P : List ℕ → Type 0) → IsSomeAnd o P → IsSome o
some_is None P h = absurd h
some_is (Some x) P h = refl

-- a listed name
pub listed_name : (files : Files) (names : List (List ℕ)) (name : List ℕ) (P : List ℕ → Type 0) → AreNamesOf files names
    → IsSomeAnd (files name) P → Contains names name
listed_name files names name P listed some = (listed name).1 (some_is (files name) P some)

pub have_segment : (files : Files) (names : List (List ℕ)) (day : List ℕ) (e : Entry) → AreNamesOf files names
    → DayHas files day e → HaveSegment names day
have_segment files names day e listed (of, (name, (segment, some))) =
    (name, listed_name files names name (λ file. SegmentHas day file e) listed some, segment)

-- ---- entries

-- no day is called `mixed`
pub day_apart : (day : List ℕ) → IsDayText day → ¬ (day ≡ codes "mixed")
day_apart day (inl undated) is = omega (arith, ap length undated, ap length is)
day_apart day (inr long) is = omega (arith, long, ap length is)

-- an entry of a segment of a day is of the day
pub entry_day : (o : Option (List ℕ)) (day : List ℕ) (e : Entry) → IsDayText day
    → IsSomeAnd o (λ file. SegmentHas day file e) → IsOf day e
entry_day None day e text h = absurd h
entry_day (Some file) day e text h =
    elim (of_member (IsOfPeriod day) h.entries e h.days h.has) [
      | inl of ↦ of
      | inr mixed ↦ absurd (day_apart day text mixed)
    ]

pub day_of : (files : Files) (day : List ℕ) (e : Entry) → DayHas files day e → IsOf day e
day_of files day e h = h.0

-- of a range the folder holds it in what is read into memory, or in a segment of some day
held_at : (files : Files) (range : InRange) (name : List ℕ) (e : Entry) (o : Option (List ℕ)) → o ≡ files name
    → HeldAt name o e → IsOfRange range e → MemoryHas files range e ⊎ ((day : List ℕ) × DayHas files day e)
held_at files range name e None is h inside = absurd h
held_at files range name e (Some file) is (inl (journal, has)) inside =
    inl (name, inl (journal, subst (λ (o : Option (List ℕ)). IsSomeAnd o (λ f. JournalHas f e)) is has))
held_at files range name e (Some file) is (inr (day, segment, has)) inside =
    go (of_member (IsOfPeriod day) has.entries e has.days has.has)
  where
    here : IsSomeAnd (files name) (λ f. SegmentHas day f e)
    here = subst (λ (o : Option (List ℕ)). IsSomeAnd o (λ f. SegmentHas day f e)) is has

    go : IsOfPeriod day e → MemoryHas files range e ⊎ ((d : List ℕ) × DayHas files d e)
    go (inl of) = inr (day, (of, (name, (segment, here))))
    go (inr mixed) =
        inl (
          name,
          inr (subst (λ (d : List ℕ). HasAsSegment files d name e) mixed (segment, here), inside),
        )

pub held_parts : (files : Files) (range : InRange) (e : Entry) → Held files e → IsOfRange range e
    → MemoryHas files range e ⊎ ((day : List ℕ) × DayHas files day e)
held_parts files range e h inside = held_at files range h.name e (files h.name) refl h.at inside

at_journal : (name : List ℕ) (o : Option (List ℕ)) (e : Entry) → IsJournal name → IsSomeAnd o (λ f. JournalHas f e)
    → HeldAt name o e
at_journal name None e journal has = absurd has
at_journal name (Some file) e journal has = inl (journal, has)

at_segment : (day name : List ℕ) (o : Option (List ℕ)) (e : Entry) → IsSegment day name
    → IsSomeAnd o (λ f. SegmentHas day f e) → HeldAt name o e
at_segment day name None e segment has = absurd has
at_segment day name (Some file) e segment has = inr (day, segment, has)

pub memory_held : (files : Files) (range : InRange) (e : Entry) → MemoryHas files range e → Held files e
memory_held files range e (name, inl (journal, has)) =
    record { name = name; at = at_journal name (files name) e journal has }
memory_held files range e (name, inr ((segment, has), inside)) =
    record { name = name; at = at_segment (codes "mixed") name (files name) e segment has }

-- a segment of some period has it
pub segment_held : (files : Files) (period : List ℕ) (e : Entry) → (name : List ℕ) × HasAsSegment files period name e
    → Held files e
segment_held files period e (name, (segment, has)) =
    record { name = name; at = at_segment period name (files name) e segment has }

pub day_held : (files : Files) (day : List ℕ) (e : Entry) → DayHas files day e → Held files e
day_held files day e h = segment_held files day e h.1
