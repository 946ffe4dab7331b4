-- What is written of a folder, day by day.
use Rattle.std.proofs.Common.{◌≡◌, ◌⊎◌, ℕ, List, [], ◌∷◌, ◌++◌, Option, None, Some, inl, inr, refl, sym, ap, subst}
use Rattle.std.proofs.Common.{◌∙◌, append_assoc}
use Rattle.std.specs.Prelude.{◌↔◌}
use Rattle.std.specs.List.{AllByRecursion}
use Rattle.std.specs.Io.KnownBytes.{Appends}
use Rattle.std.proofs.KnownBytes.{Appends-nil, Appends-trans}
use Rattle.disk.specs.States.{Files}
use Rattle.archive_text.specs.Entries.{Entry, Has, IsAscending, IsBelow, IsEntry}
use Rattle.archive_text.specs.Text.{IsArchive, text_of}
use Rattle.archive_text.specs.declared.limits.TheConstants.{ENTRY_MAX}
use Rattle.archive_text.proofs.Ascending.{ascending_join, ascending_right}
use Rattle.archive_text.proofs.Members.{has_either, has_left, has_right, of_member}
use Rattle.archive_text.proofs.Orders.{below_transitive}
use Rattle.archive_text.proofs.Texts.{text_append}
use Rattle.archive_streams.proofs.Joining.{initial}
use Rattle.archive_sets.specs.declared.range.InRange.{InRange}
use Rattle.archive_join.specs.Ranges.{IsOfRange}
use Rattle.record_store.specs.Holdings.{Held}
use Rattle.store_reading.specs.Days.{IsAfter, IsDayBelow, IsDayText, IsOf}
use Rattle.store_reading.specs.Folders.{AreNamesOf}
use Rattle.store_reading.specs.Journals.{MemoryHas}
use Rattle.store_reading.specs.Names.{HaveSegment}
use Rattle.store_reading.specs.Segments.{DayHas}
use Rattle.store_reading.specs.Sets.{EarlierHas, IsAbove, IsInDay, IsSetOf, WritesDay, WritesDays, WritesPart}
use Rattle.store_reading.specs.Sets.{WritesPartOfDay, WritesSet}
use Rattle.store_reading.proofs.DayOrders.{day_irreflexive, day_text, day_total, day_transitive, entry_order}
use Rattle.store_reading.proofs.DayOrders.{some_day}
use Rattle.store_reading.proofs.Held.{day_held, day_of, have_segment, held_parts, memory_held}
use Rattle.store_reading.proofs.NextDays.{HeadAfter, after_or_not, still_up_to, up_to}

-- no day of a segment lies between the last one and this
abbrev pub NoneBefore : Option (List ℕ) → List (List ℕ) → List ℕ → Type 0
NoneBefore last names day =
    (d : List ℕ) → IsDayText d → HaveSegment names d → IsAfter last d → ¬ (IsDayBelow d day)

-- ---- before the first day

pub nothing_written : (files : Files) (range : InRange) (old : Option (List ℕ)) → WritesDays files range None [] old old
nothing_written files range old = record {
  entries = [];
  ascending = tt;
  members = λ e. (λ h. absurd h, λ h. elim h.0 [ inl none ↦ absurd none | inr earlier ↦ absurd (earlier.1 tt) ]);
  days = λ e h. absurd h;
  written = Appends-nil old;
}

-- a day that is outside the range
pub nothing_of_day : (files : Files) (range : InRange) (day : List ℕ) (xs : List Entry) (old : Option (List ℕ))
    → AllByRecursion (IsOf day) xs → ((e : Entry) → IsOf day e → ¬ (IsOfRange range e))
    → WritesDay files range day xs old old
nothing_of_day files range day xs old of outside = record {
  entries = [];
  ascending = tt;
  members = λ e. (λ h. absurd h, λ h. absurd (outside e (lies e h.0) h.1));
  written = Appends-nil old;
}
  where
    lies : (e : Entry) → IsInDay files day xs e → IsOf day e
    lies e (inl mine) = of_member (IsOf day) xs e of mine
    lies e (inr segment) = day_of files day e segment

module _ (files : Files) (range : InRange) (last : Option (List ℕ)) (names : List (List ℕ)) (day : List ℕ)
    (js xs : List Entry) (old mid : Option (List ℕ)) (w : WritesDays files range last js old mid)
    (of : AllByRecursion (IsOf day) xs) (after : IsAfter last day) (none : NoneBefore last names day)
    (listed : AreNamesOf files names) where
  lies : (e : Entry) → IsInDay files day xs e → IsOf day e
  lies e (inl mine) = of_member (IsOf day) xs e of mine
  lies e (inr segment) = day_of files day e segment

  -- the day of an entry that was written is up to the last one
  written_day : (e : Entry) → Has w.entries e → (d : List ℕ) × IsOf d e × ¬ (IsAfter last d)
  written_day e h = go ((w.members e).0 h).0
    where
      go : Has js e ⊎ EarlierHas files last e → (d : List ℕ) × IsOf d e × ¬ (IsAfter last d)
      go (inl journal) = w.days e journal
      go (inr (d, not, has)) = (d, day_of files d e has, not)

  -- so it is below each of a day behind that
  written_below : (e f : Entry) (d : List ℕ) → Has w.entries e → IsOf d f → IsAfter last d → IsBelow e f
  written_below e f d h k behind =
      let x = written_day e h in entry_order x.0 d e f x.1 k (up_to last x.0 d x.2 behind)

  -- where a segment has it, of a day up to this one
  which : (e : Entry) (d : List ℕ) → DayHas files d e → ¬ (IsDayBelow day d)
      → EarlierHas files last e ⊎ DayHas files day e
  which e d has not = go (after_or_not last d) (day_total day d)
    where
      go : IsAfter last d ⊎ ¬ (IsAfter last d) → IsDayBelow day d ⊎ ((day ≡ d) ⊎ IsDayBelow d day)
          → EarlierHas files last e ⊎ DayHas files day e
      go (inr early) o = inl (d, early, has)
      go (inl late) (inl more) = absurd (not more)
      go (inl late) (inr (inl same)) = inr (subst (λ (x : List ℕ). DayHas files x e) (sym same) has)
      go (inl late) (inr (inr less)) =
          absurd (none d (day_text d e (day_of files d e has)) (have_segment files names d e listed has) late less)

  module _ (new : Option (List ℕ)) (d : WritesDay files range day xs mid new) where
    there : (e : Entry) → Has (w.entries ++ d.entries) e
        → (Has (js ++ xs) e ⊎ EarlierHas files (Some day) e) × IsOfRange range e
    there e h = go (has_either w.entries d.entries e h)
      where
        before : Has js e ⊎ EarlierHas files last e → Has (js ++ xs) e ⊎ EarlierHas files (Some day) e
        before (inl journal) = inl (has_left js xs e journal)
        before (inr (x, not, has)) = inr (x, still_up_to last x day not after, has)

        now : IsInDay files day xs e → Has (js ++ xs) e ⊎ EarlierHas files (Some day) e
        now (inl mine) = inl (has_right js xs e mine)
        now (inr has) = inr (day, day_irreflexive day, has)

        go : Has w.entries e ⊎ Has d.entries e
            → (Has (js ++ xs) e ⊎ EarlierHas files (Some day) e) × IsOfRange range e
        go (inl k) = let m = (w.members e).0 k in (before m.0, m.1)
        go (inr k) = let m = (d.members e).0 k in (now m.0, m.1)

    back : (e : Entry) → (Has (js ++ xs) e ⊎ EarlierHas files (Some day) e) × IsOfRange range e
        → Has (w.entries ++ d.entries) e
    back e (inl journal, in_range) = go (has_either js xs e journal)
      where
        go : Has js e ⊎ Has xs e → Has (w.entries ++ d.entries) e
        go (inl k) = has_left w.entries d.entries e ((w.members e).1 (inl k, in_range))
        go (inr k) = has_right w.entries d.entries e ((d.members e).1 (inl k, in_range))
    back e (inr (x, not, has), in_range) = go (which e x has not)
      where
        go : EarlierHas files last e ⊎ DayHas files day e → Has (w.entries ++ d.entries) e
        go (inl k) = has_left w.entries d.entries e ((w.members e).1 (inr k, in_range))
        go (inr k) = has_right w.entries d.entries e ((d.members e).1 (inr k, in_range))

    days_now : (e : Entry) → Has (js ++ xs) e → (x : List ℕ) × IsOf x e × ¬ (IsAfter (Some day) x)
    days_now e h = go (has_either js xs e h)
      where
        go : Has js e ⊎ Has xs e → (x : List ℕ) × IsOf x e × ¬ (IsAfter (Some day) x)
        go (inl k) = let x = w.days e k in (x.0, x.1, still_up_to last x.0 day x.2 after)
        go (inr k) = (day, of_member (IsOf day) xs e of k, day_irreflexive day)

    -- one day more was written
    pub day_written : WritesDays files range (Some day) (js ++ xs) old new
    day_written = record {
      entries = w.entries ++ d.entries;
      ascending = ascending_join w.entries d.entries w.ascending d.ascending
          (λ x y h k. written_below x y day h (lies y ((d.members y).0 k).0) after);
      members = λ e. (there e, back e);
      days = days_now;
      written = subst (Appends old new) (sym (text_append w.entries d.entries))
          (Appends-trans old mid new (text_of w.entries) (text_of d.entries) w.written d.written);
    }

  module _ (ys : List Entry) (archive : IsArchive ENTRY_MAX (js ++ (xs ++ ys)))
      (have : (e : Entry) → Has (js ++ (xs ++ ys)) e ↔ MemoryHas files range e) (head : HeadAfter (Some day) ys)
      (new : Option (List ℕ)) (p : WritesPartOfDay files range day xs mid new) where
    part_held : (e : Entry) → Has (w.entries ++ p.entries) e → Held files e × IsOfRange range e
    part_held e h = go (has_either w.entries p.entries e h)
      where
        journal : (e : Entry) → Has js e → Held files e
        journal e k = memory_held files range e ((have e).0 (has_left js (xs ++ ys) e k))

        mine : (e : Entry) → Has xs e → Held files e
        mine e k = memory_held files range e ((have e).0 (has_right js (xs ++ ys) e (has_left xs ys e k)))

        before : Has js e ⊎ EarlierHas files last e → Held files e
        before (inl k) = journal e k
        before (inr (x, not, has)) = day_held files x e has

        now : IsInDay files day xs e → Held files e
        now (inl k) = mine e k
        now (inr has) = day_held files day e has

        go : Has w.entries e ⊎ Has p.entries e → Held files e × IsOfRange range e
        go (inl k) = let m = (w.members e).0 k in (before m.0, m.1)
        go (inr k) = let m = p.members e k in (now m.0, m.1)

    -- what is of a later day is above all that was written
    later_above : (e : Entry) (x : List ℕ) → IsOf x e → IsDayBelow day x → IsAbove (w.entries ++ p.entries) e
    later_above e x lying less f h = go (has_either w.entries p.entries f h)
      where
        behind : (l : Option (List ℕ)) → IsAfter l day → IsAfter l x
        behind None k = tt
        behind (Some l) k = day_transitive l day x k less

        go : Has w.entries f ⊎ Has p.entries f → IsBelow f e
        go (inl k) = written_below f e x k lying (behind last after)
        go (inr k) = entry_order day x f e (lies f (p.members f k).0) lying less

    -- so are the journals' entries behind those of the day
    rest_above : (zs : List Entry) (e : Entry) → zs ≡ ys → Has zs e → IsAbove (w.entries ++ p.entries) e
    rest_above [] e is h = absurd h
    rest_above (z ∷ zs) e is h = go h
      where
        up : IsArchive ENTRY_MAX (js ++ (xs ++ (z ∷ zs)))
        up = subst (λ (l : List Entry). IsArchive ENTRY_MAX (js ++ (xs ++ l))) (sym is) archive

        first : IsAbove (w.entries ++ p.entries) z
        first =
            let heads : HeadAfter (Some day) (z ∷ zs) = subst (HeadAfter (Some day)) (sym is) head in
            let entry : IsEntry z = of_member IsEntry (js ++ (xs ++ (z ∷ zs))) z up.entries
            (has_right js (xs ++ (z ∷ zs)) z (has_right xs (z ∷ zs) z (inl refl))) in
            let x = some_day z entry in later_above z x.0 x.1 (heads x.0 x.1)

        ascending : IsAscending (z ∷ zs)
        ascending = ascending_right xs (z ∷ zs) (ascending_right js (xs ++ (z ∷ zs)) up.ascending)

        go : (z ≡ e) ⊎ Has zs e → IsAbove (w.entries ++ p.entries) e
        go (inl same) = subst (IsAbove (w.entries ++ p.entries)) same first
        go (inr more) = λ f k. below_transitive f z e (first f k) (of_member (IsBelow z) zs e ascending.0 more)

    -- of the day: written, or above all
    of_day : (e : Entry) → IsInDay files day xs e → IsOfRange range e
        → Has (w.entries ++ p.entries) e ⊎ IsAbove (w.entries ++ p.entries) e
    of_day e mine in_range = go (p.first e mine in_range)
      where
        both : IsAbove p.entries e → (f : Entry) → Has w.entries f ⊎ Has p.entries f → IsBelow f e
        both above f (inl k) = written_below f e day k (lies e mine) after
        both above f (inr k) = above f k

        go : Has p.entries e ⊎ IsAbove p.entries e → Has (w.entries ++ p.entries) e ⊎ IsAbove (w.entries ++ p.entries) e
        go (inl k) = inl (has_right w.entries p.entries e k)
        go (inr above) = inr (λ f k. both above f (has_either w.entries p.entries f k))

    held_place : (e : Entry) → Held files e → IsOfRange range e
        → Has (w.entries ++ p.entries) e ⊎ IsAbove (w.entries ++ p.entries) e
    held_place e held in_range = go (held_parts files range e held in_range)
      where
        earlier : Has js e ⊎ EarlierHas files last e → Has (w.entries ++ p.entries) e
        earlier k = has_left w.entries p.entries e ((w.members e).1 (k, in_range))

        of_journal : Has js e ⊎ Has (xs ++ ys) e → Has (w.entries ++ p.entries) e ⊎ IsAbove (w.entries ++ p.entries) e
        of_journal (inl k) = inl (earlier (inl k))
        of_journal (inr k) =
            elim (has_either xs ys e k) [
              | inl mine ↦ of_day e (inl mine) in_range
              | inr more ↦ inr (rest_above ys e refl more)
            ]

        of_segment : (x : List ℕ) → DayHas files x e → IsDayBelow day x ⊎ ((day ≡ x) ⊎ IsDayBelow x day)
            → Has (w.entries ++ p.entries) e ⊎ IsAbove (w.entries ++ p.entries) e
        of_segment x has (inl more) = inr (later_above e x (day_of files x e has) more)
        of_segment x has (inr (inl same)) =
            of_day e (inr (subst (λ (y : List ℕ). DayHas files y e) (sym same) has)) in_range
        of_segment x has (inr (inr less)) =
            elim (which e x has (λ more. day_irreflexive day (day_transitive day x day more less))) [
              | inl k ↦ inl (earlier (inr k))
              | inr k ↦ of_day e (inr k) in_range
            ]

        go : MemoryHas files range e ⊎ ((x : List ℕ) × DayHas files x e)
            → Has (w.entries ++ p.entries) e ⊎ IsAbove (w.entries ++ p.entries) e
        go (inl k) = of_journal (has_either js (xs ++ ys) e ((have e).1 k))
        go (inr (x, has)) = of_segment x has (day_total day x)

    -- of this day not all was written
    pub day_stopped : WritesPart files range old new
    day_stopped = record {
      part = text_of w.entries ++ p.part;
      written = Appends-trans old mid new (text_of w.entries) p.part w.written p.written;
      begins = λ es set. begins es set;
    }
      where
        up : IsAscending (w.entries ++ p.entries)
        up = ascending_join w.entries p.entries w.ascending p.ascending
            (λ x y h k. written_below x y day h (lies y (p.members y k).0) after)

        begins : (es : List Entry) → IsSetOf files range es
            → (more : List ℕ) × (text_of es ≡ (text_of w.entries ++ p.part) ++ more)
        begins es set =
            let rest = initial (w.entries ++ p.entries) es up set.ascending
            (λ e h. (set.members e).1 (part_held e h))
            (λ e h. let m = (set.members e).0 h in held_place e m.0 m.1) in (
              p.more ++ text_of rest.0,
              ap text_of rest.1 ∙ text_append (w.entries ++ p.entries) rest.0
                  ∙ ap (λ (t : List ℕ). t ++ text_of rest.0) (text_append w.entries p.entries
                  ∙ ap (λ (t : List ℕ). text_of w.entries ++ t) p.begins
                  ∙ sym (append_assoc (text_of w.entries) p.part p.more))
                  ∙ append_assoc (text_of w.entries ++ p.part) p.more (text_of rest.0),
            )

-- ---- behind the last day

pub all_written : (files : Files) (range : InRange) (last : Option (List ℕ)) (names : List (List ℕ)) (js : List Entry)
    (old new : Option (List ℕ)) → WritesDays files range last js old new
    → ((e : Entry) → Has js e ↔ MemoryHas files range e) → AreNamesOf files names
    → ((d : List ℕ) → IsDayText d → HaveSegment names d → ¬ (IsAfter last d)) → WritesSet files range old new
all_written files range last names js old new w have listed none = record {
  entries = w.entries;
  set = record { ascending = w.ascending; members = λ e. (there e, back e) };
  written = w.written;
}
  where
    there : (e : Entry) → Has w.entries e → Held files e × IsOfRange range e
    there e h = go ((w.members e).0 h)
      where
        go : (Has js e ⊎ EarlierHas files last e) × IsOfRange range e → Held files e × IsOfRange range e
        go (inl k, in_range) = (memory_held files range e ((have e).0 k), in_range)
        go (inr (d, not, has), in_range) = (day_held files d e has, in_range)

    back : (e : Entry) → Held files e × IsOfRange range e → Has w.entries e
    back e (held, in_range) = go (held_parts files range e held in_range)
      where
        go : MemoryHas files range e ⊎ ((d : List ℕ) × DayHas files d e) → Has w.entries e
        go (inl k) = (w.members e).1 (inl ((have e).1 k), in_range)
        go (inr (d, has)) =
            (w.members e).1 (
              inr (
                d,
                none d (day_text d e (day_of files d e has))
                    (have_segment files names d e listed has),
                has,
              ),
              in_range,
            )

-- ---- where the days do not end

pub days_cut : (files : Files) (range : InRange) (last : Option (List ℕ)) (js ys : List Entry)
    (old new : Option (List ℕ))
    → WritesDays files range last js old new → IsArchive ENTRY_MAX (js ++ ys)
    → ((e : Entry) → Has (js ++ ys) e ↔ MemoryHas files range e) → HeadAfter last ys → WritesPart files range old new
days_cut files range last js ys old new w archive have head = record {
  part = text_of w.entries;
  written = w.written;
  begins = λ es set. begins es set;
}
  where
    below : (d x : List ℕ) (e f : Entry) → IsOf d f → IsOf x e → ¬ (IsAfter last d) → IsAfter last x → IsBelow f e
    below d x e f lies lying not behind = entry_order d x f e lies lying (up_to last d x not behind)

    above : (e : Entry) (x : List ℕ) → IsOf x e → IsAfter last x → IsAbove w.entries e
    above e x lying behind f h = go ((w.members f).0 h).0
      where
        go : Has js f ⊎ EarlierHas files last f → IsBelow f e
        go (inl k) = let d = w.days f k in below d.0 x e f d.1 lying d.2 behind
        go (inr (d, not, has)) = below d x e f (day_of files d f has) lying not behind

    rest_above : (zs : List Entry) (e : Entry) → zs ≡ ys → Has zs e → IsAbove w.entries e
    rest_above [] e is h = absurd h
    rest_above (z ∷ zs) e is h = go h
      where
        up : IsArchive ENTRY_MAX (js ++ (z ∷ zs))
        up = subst (λ (l : List Entry). IsArchive ENTRY_MAX (js ++ l)) (sym is) archive

        first : IsAbove w.entries z
        first =
            let heads : HeadAfter last (z ∷ zs) = subst (HeadAfter last) (sym is) head in
            let entry : IsEntry z = of_member IsEntry (js ++ (z ∷ zs)) z up.entries
            (has_right js (z ∷ zs) z (inl refl)) in
            let x = some_day z entry in above z x.0 x.1 (heads x.0 x.1)

        ascending : IsAscending (z ∷ zs)
        ascending = ascending_right js (z ∷ zs) up.ascending

        go : (z ≡ e) ⊎ Has zs e → IsAbove w.entries e
        go (inl same) = subst (IsAbove w.entries) same first
        go (inr more) = λ f k. below_transitive f z e (first f k) (of_member (IsBelow z) zs e ascending.0 more)

    place : (e : Entry) → Held files e → IsOfRange range e → Has w.entries e ⊎ IsAbove w.entries e
    place e held in_range = go (held_parts files range e held in_range)
      where
        of_segment : (x : List ℕ) → DayHas files x e → IsAfter last x ⊎ ¬ (IsAfter last x)
            → Has w.entries e ⊎ IsAbove w.entries e
        of_segment x has (inl late) = inr (above e x (day_of files x e has) late)
        of_segment x has (inr early) = inl ((w.members e).1 (inr (x, early, has), in_range))

        go : MemoryHas files range e ⊎ ((x : List ℕ) × DayHas files x e) → Has w.entries e ⊎ IsAbove w.entries e
        go (inl k) =
            elim (has_either js ys e ((have e).1 k)) [
              | inl mine ↦ inl ((w.members e).1 (inl mine, in_range))
              | inr more ↦ inr (rest_above ys e refl more)
            ]
        go (inr (x, has)) = of_segment x has (after_or_not last x)

    part_held : (e : Entry) → Has w.entries e → Held files e × IsOfRange range e
    part_held e h = go ((w.members e).0 h)
      where
        go : (Has js e ⊎ EarlierHas files last e) × IsOfRange range e → Held files e × IsOfRange range e
        go (inl k, in_range) = (memory_held files range e ((have e).0 (has_left js ys e k)), in_range)
        go (inr (d, not, has), in_range) = (day_held files d e has, in_range)

    begins : (es : List Entry) → IsSetOf files range es → (more : List ℕ) × (text_of es ≡ text_of w.entries ++ more)
    begins es set =
        let rest = initial w.entries es w.ascending set.ascending (λ e h. (set.members e).1 (part_held e h))
        (λ e h. let m = (set.members e).0 h in place e m.0 m.1) in
        (text_of rest.0, ap text_of rest.1 ∙ text_append w.entries rest.0)
