-- What was read is whole.
use Rattle.std.proofs.Common.{◌≡◌, ◌⊎◌, ℕ, List, [], ◌∷◌, ◌++◌, Option, None, Some, inl, inr, refl, sym, ap, subst, ◌∙◌}
use Rattle.std.proofs.Common.{append-nil}
use Rattle.std.specs.Prelude.{Contains, Err, IfOk, IfSome, IsSome, IsSomeAnd, Ok, OnOk, Result, codes, Bool, IsTrue, ◌↔◌}
use Rattle.std.proofs.lemmas.List.Elements.{Contains-push_cases}
use Rattle.disk.specs.States.{Files}
use Rattle.octet_devices.specs.Device.{InputState}
use Rattle.journal.specs.Batches.{IsClosed}
use Rattle.archive_text.specs.Entries.{Entry}
use Rattle.archive_text.specs.Text.{text_of}
use Rattle.archive_sets.specs.declared.range.InRange.{InRange}
use Rattle.store_reading.specs.Days.{IsAfter, IsDayBelow}
use Rattle.store_reading.specs.Folders.{AreNamesOf, Opens}
use Rattle.store_reading.specs.Names.{HaveSegment, IsNextDay}
use Rattle.store_reading.specs.Damages.{AreReadable, OfLeft}
use Rattle.store_reading.specs.Segments.{IsSegmentInput}
use Rattle.store_reading.specs.Whole.{DaysAreWhole, EarlierAreWhole}
use Rattle.record_store.specs.Holdings.{IsReadable, IsWholeJournal}
use Rattle.store_reading.specs.Whole.{IsWholeJournalAt, IsWholeSegment, IsWholeSegmentAt, JournalsAreWhole, MeetsRange}
use Rattle.store_reading.specs.Whole.{NamedMemoryIsWhole, NamedSegmentsAreWhole, SegmentsAreWhole}
use Rattle.store_reading.proofs.Batched.{JournalAdded}
use Rattle.store_reading.proofs.DayOrders.{day_text, day_total}
use Rattle.store_reading.proofs.DaysRead.{some_not}
use Rattle.store_reading.proofs.NextDays.{after_or_not}

-- what holds of any result holds of one that is no fault
pub on_ok : {T E P : Type 0} (r : Result T E) → P → OnOk r P
on_ok (Ok x) p = p
on_ok (Err e) p = tt

pub on_ok_more : {T E P Q : Type 0} (r : Result T E) → (P → Q) → OnOk r P → OnOk r Q
on_ok_more (Ok x) from p = from p
on_ok_more (Err e) from p = tt

pub if_ok_more : {T E : Type 0} (r : Result T E) (P Q : T → Type 0) → ((x : T) → P x → Q x) → IfOk r P → IfOk r Q
if_ok_more (Ok x) P Q from p = from x p
if_ok_more (Err e) P Q from p = tt

-- whether a batch has its seal is told where something is left of it
pub sealed_more : {E : Type 0} (r : Result Bool E) (A B C : Type 0) → (A → C ↔ B) → OnOk r A
    → IfOk r (λ sealed. IsTrue sealed ↔ B) → IfOk r (λ sealed. IsTrue sealed ↔ C)
sealed_more (Ok sealed) A B C from a tells =
    let both = from a in (λ on. both.1 (tells.0 on), λ c. tells.1 (both.0 c))
sealed_more (Err e) A B C from a tells = tt

-- ---- a journal

pub journal_read : (old new : List Entry) (file rest : List ℕ) → JournalAdded old new file rest → IsClosed rest
    → AreReadable file
journal_read old new file rest j closed = record {
  bodies = j.bodies;
  batches = record { tail = rest; text = j.parts; closed = closed; sized = j.sized };
  readable = j.readable;
  stay_sealed = j.stay;
}

-- what is so of each file that was read is so of the one under a name
pub of_read : (file : Option (List ℕ)) (P Q : List ℕ → Type 0) → IsSomeAnd file P → ((f : List ℕ) → P f → Q f)
    → IsSomeAnd file Q
of_read None P Q read each = absurd read
of_read (Some f) P Q read each = each f read

pub if_read : (file : Option (List ℕ)) (P Q : List ℕ → Type 0) → IsSomeAnd file P → ((f : List ℕ) → P f → Q f)
    → IfSome file Q
if_read None P Q read each = tt
if_read (Some f) P Q read each = each f read

-- the mixed segment that was opened
pub opened_mixed : (files : Files) (name : List ℕ) (d : InputState) → Opens files name d
    → OfLeft d (IsWholeSegment (codes "mixed") name) → IsWholeSegmentAt files (codes "mixed") name
opened_mixed files name d opens whole segment = at (files name) opens
  where
    at : (o : Option (List ℕ)) → IsSomeAnd o (λ octets. d.left ≡ Some octets)
        → IfSome o (IsWholeSegment (codes "mixed") name)
    at None opened = absurd opened
    at (Some file) opened = whole file opened

-- ---- names

pub more_whole : (P : List ℕ → Type 0) (names : List (List ℕ)) (last : List ℕ)
    → ((name : List ℕ) → Contains names name → P name) → P last
    → (name : List ℕ) → Contains (names ++ last ∷ []) name → P name
more_whole P names last before one name has =
    elim (Contains-push_cases names last name has) [ inl k ↦ before name k | inr is ↦ subst P is one ]

-- where all names that have a file are listed
listed_whole : (P : List ℕ → Type 0) (files : Files) (names : List (List ℕ)) (name : List ℕ) (o : Option (List ℕ))
    → o ≡ files name → AreNamesOf files names → (Contains names name → IfSome (files name) P) → IfSome o P
listed_whole P files names name None is listed whole = tt
listed_whole P files names name (Some file) is listed whole =
    subst (λ (o : Option (List ℕ)). IfSome o P) (sym is) (whole ((listed name).1 (ap_some is)))
  where
    ap_some : Some file ≡ files name → IsSome (files name)
    ap_some same = subst (λ (o : Option (List ℕ)). IsSome o) same refl

pub journals_whole : (files : Files) (names : List (List ℕ)) → AreNamesOf files names → NamedMemoryIsWhole files names
    → JournalsAreWhole files
journals_whole files names listed whole name journal =
    listed_whole IsWholeJournal files names name (files name) refl listed (λ has. (whole name has).journal journal)

pub mixed_whole : (files : Files) (names : List (List ℕ)) → AreNamesOf files names → NamedMemoryIsWhole files names
    → SegmentsAreWhole files (codes "mixed")
mixed_whole files names listed whole name segment =
    listed_whole (IsWholeSegment (codes "mixed") name) files names name (files name) refl listed
    (λ has. (whole name has).mixed segment)

pub day_whole : (files : Files) (names : List (List ℕ)) (day : List ℕ) → AreNamesOf files names
    → NamedSegmentsAreWhole files names day → SegmentsAreWhole files day
day_whole files names day listed whole name segment =
    listed_whole (IsWholeSegment day name) files names name (files name) refl listed (λ has. whole name has segment)

-- ---- segments

-- the segment that was opened
pub segment_whole : (files : Files) (name day : List ℕ) (d : InputState) → IsSegmentInput files name day d
    → IsWholeSegmentAt files day name
segment_whole files name day d i =
    λ segment. subst (λ (o : Option (List ℕ)). IfSome o (IsWholeSegment day name)) (sym i.file) (record {
      entries = i.entries;
      archive = record { archive = i.input.archive; text_is = refl; days = i.days };
      named = i.named;
    })

-- ---- days

module _ (files : Files) (range : InRange) (last : Option (List ℕ)) (names : List (List ℕ)) (rest : List ℕ)
    (found : Option (List ℕ)) (n : IsNextDay last names rest found) (listed : AreNamesOf files names)
    (before : EarlierAreWhole files range last) where
  -- of a day behind the last one that has no segment nothing is to be whole
  no_segment : (d : List ℕ) → ¬ (HaveSegment names d) → SegmentsAreWhole files d
  no_segment d none name segment =
      listed_whole (IsWholeSegment d name) files names name (files name) refl listed
      (λ has. absurd (none (name, has, segment)))

  -- where there is no further day
  pub days_whole : found ≡ None → DaysAreWhole files range
  days_whole none d meets =
      elim (after_or_not last d) [
        | inr not ↦ before d not meets
        | inl after ↦ no_segment d (λ have.
            subst (λ (o : Option (List ℕ)). IsSomeAnd o (λ (x : List ℕ). ¬ (IsDayBelow d x))) none
            (n.none_before d (day_text d meets.0 meets.1) (inl have) after))
      ]

  -- one day more
  pub days_more_whole : (day : List ℕ) → found ≡ Some day → (MeetsRange range day → SegmentsAreWhole files day)
      → EarlierAreWhole files range (Some day)
  days_more_whole day is one d not meets = go (day_total day d)
    where
      below : IsDayBelow d day → IsAfter last d ⊎ ¬ (IsAfter last d) → SegmentsAreWhole files d
      below less (inr up_to) = before d up_to meets
      below less (inl after) =
          no_segment d
          (λ have. some_not found d day is (n.none_before d (day_text d meets.0 meets.1) (inl have) after) less)

      go : IsDayBelow day d ⊎ ((day ≡ d) ⊎ IsDayBelow d day) → SegmentsAreWhole files d
      go (inl after) = absurd (not after)
      go (inr (inl same)) =
          subst (SegmentsAreWhole files) same (one (subst (MeetsRange range) (sym same) meets))
      go (inr (inr less)) = below less (after_or_not last d)
