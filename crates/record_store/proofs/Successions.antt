-- One journal after another.
use Rattle.std.proofs.Common.{◌≡◌, ◌≢◌, ◌⊎◌, inl, inr, ⊎_elim, ℕ, ◌+◌, ◌<◌, ◌≤◌, ◌^◌, List, [], ◌∷◌, ◌++◌, refl, sym, ap}
use Rattle.std.proofs.Common.{length, subst, ◌∙◌, arith, take}
use Rattle.std.proofs.lemmas.List.{take_all}
use Rattle.std.specs.Prelude.{Contains, Option, None, Some, false, true}
use Rattle.std.specs.List.Sorted.{IsStrictlyIncreasing}
use Rattle.std.proofs.lemmas.List.Elements.{Contains-append_left, Contains-push, Contains-push_cases}
use Rattle.disk.specs.Calls.{IsUnchanged, RemovesFile}
use Rattle.disk.specs.Memory.{shown_now}
use Rattle.disk.specs.States.{Entry as DiskEntry, Files, NameMayLeave, State, kept}
use Rattle.journal.specs.Journals.{KeepsOrSettlesOthers, LeavesNoBatch, SettlesOthers, ShowsNoBatch}
use Rattle.journal.specs.Journals.{Stands as JournalStands}
use Rattle.archive_text.specs.Entries.{Entry, Has}
use Rattle.archive_text.proofs.Members.{has_either}
use Rattle.record_store.specs.Crashes.{HeldApart, InSegment, Keeps, MayLeaveCounted}
use Rattle.record_store.specs.Holdings.{AreEntries, Held, HeldAt, JournalHas}
use Rattle.record_store.specs.Names.{IsJournal, journal_name}
use Rattle.record_store.specs.Segments.{SegmentsGrow}
use Rattle.record_store.specs.Shown.{AreShown, JournalsHave, JournalsWithin, ShowsWithin, journal_shown}
use Rattle.record_store.specs.Stores.{IsReady, Sets, Stands, begun}
use Rattle.record_store.specs.Turns.{AreEachShown, AreInSegments, IsGoneOf, LosesOnly, ShedsOldest, turned}
use Rattle.record_store.specs.declared.store.RecordStore.{RecordStore}
use Rattle.record_store.proofs.Apart.{held_journals, segments_beside, segments_less, within_then}
use Rattle.record_store.proofs.Batches.{none_wait}
use Rattle.record_store.proofs.Covering.{with-here, with-other, with_file}
use Rattle.record_store.proofs.Creating.{create_keeps, create_older, create_ready, create_within}
use Rattle.record_store.proofs.Leavings.{retired_leaves, settled_shown, shown_left}
use Rattle.record_store.proofs.Named.{not_both, other_number, same_or_apart}
use Rattle.record_store.proofs.Numbers.{increasing_take, last_apart, take_part}
use Rattle.record_store.proofs.Remaining.{none_grow}
use Rattle.record_store.proofs.Showing.{ready_shows}
use Rattle.record_store.proofs.Standing.{ready_as}

-- ---- a journal is removed

module _ (old new : State) (number : ℕ) (small : number < 2 ^ 64)
    (done : IsUnchanged old new ⊎ RemovesFile old new (journal_name number)) where
  abbrev name : List ℕ
  name = journal_name number

  this_journal : IsJournal (journal_name number)
  this_journal = record { number = number; small = small; name_is = refl }

  others : (other : List ℕ) → other ≢ journal_name number → new.entries other ≡ old.entries other
  others other differs =
      ⊎_elim (λ same. same.entries other) (λ removes. removes.entry.others other differs) done

  -- what might have been left, or nothing
  left : (octets : Option (List ℕ)) → NameMayLeave (new.entries (journal_name number)) octets
      → NameMayLeave (old.entries (journal_name number)) octets ⊎ (octets ≡ None)
  left octets may = ⊎_elim
      (λ same. inl (subst (λ (e : DiskEntry). NameMayLeave e octets) (same.entries name) may))
      (λ removes. retired_leaves (old.entries name) octets
      (subst (λ (e : DiskEntry). NameMayLeave e octets) removes.entry.here may))
      done

  -- a folder from before, with another file under the name
  before_may : (after : Files) (was : Option (List ℕ)) → NameMayLeave (old.entries (journal_name number)) was
      → MayLeaveCounted new after → MayLeaveCounted old (with_file after (journal_name number) was)
  before_may after was was_may may other counts = ⊎_elim
      (λ (same : other ≡ name). subst (λ (n : List ℕ). NameMayLeave (old.entries n)
      (with_file after name was other)) (sym same)
      (subst (λ (o : Option (List ℕ)). NameMayLeave (old.entries name) o)
      (sym (with-here after name other was same)) was_may))
      (λ (differs : other ≢ name). subst (λ (o : Option (List ℕ)). NameMayLeave (old.entries other) o)
      (sym (with-other after name other was differs))
      (subst (λ (e : DiskEntry). NameMayLeave e (after other)) (others other differs) (may other counts)))
      (same_or_apart other name)

  abbrev shown : Option (List ℕ)
  shown = shown_now (old.entries (journal_name number))

  module _ (known : (octets : List ℕ) → journal_shown old number ≡ Some octets → (e : Entry) → JournalHas octets e
      → InSegment old e) where
    elsewhere : (o : Option (List ℕ)) → shown_now (old.entries (journal_name number)) ≡ o → (e : Entry)
        → HeldAt (journal_name number) o e → InSegment old e
    elsewhere None is e held = absurd held
    elsewhere (Some octets) is e (inl journal) = known octets is e journal.1
    elsewhere (Some octets) is e (inr (day, segment, has)) = absurd (not_both day name this_journal segment)

    still_held : (after : Files) → MayLeaveCounted new after → (e : Entry) → InSegment old e → Held after e
    still_held after may e held = record {
      name = held.name;
      at = held.holds (after held.name) (subst (λ (x : DiskEntry). NameMayLeave x (after held.name))
          (others held.name (λ same. not_both held.day held.name (subst IsJournal (sym same) this_journal) held.segment))
          (may held.name (inr (held.day, held.segment))));
    }

    pub removed_keeps : (committed received : List Entry) → Keeps old committed received
        → Keeps new committed received
    removed_keeps committed received keeps = record {
      nothing_lost = λ after may e has.
          let held = keeps.nothing_lost (with_file after name shown)
          (before_may after shown (shown_left (old.entries name)) may) e has in
          ⊎_elim
          (λ (is : held.name ≡ name). still_held after may e (elsewhere shown refl e
          (subst (λ (o : Option (List ℕ)). HeldAt name o e) (with-here after name name shown refl)
          (subst (λ (n : List ℕ). HeldAt n (with_file after name shown n) e) is held.at))))
          (λ (differs : held.name ≢ name). record {
            name = held.name;
            at = subst (λ (o : Option (List ℕ)). HeldAt held.name o e)
                (with-other after name held.name shown differs) held.at;
          })
          (same_or_apart held.name name);
      nothing_forged = λ after may e held. ⊎_elim
          (λ was. keeps.nothing_forged (with_file after name (after name)) (before_may after (after name) was may) e
          (with_same after held.name e held.at))
          (λ none. keeps.nothing_forged (with_file after name shown)
          (before_may after shown (shown_left (old.entries name)) may) e
          (with_none after none held.name e held.at))
          (left (after name) (may name (inl this_journal)));
    }
      where
        with_same : (after : Files) (other : List ℕ) (e : Entry) → HeldAt other (after other) e
            → Held (with_file after (journal_name number) (after (journal_name number))) e
        with_same after other e at = record {
          name = other;
          at = subst (λ (o : Option (List ℕ)). HeldAt other o e)
              (⊎_elim
              (λ (is : other ≡ name). ap after is ∙ sym (with-here after name other (after name) is))
              (λ (differs : other ≢ name). sym (with-other after name other (after name) differs))
              (same_or_apart other name)) at;
        }

        with_none : (after : Files) → after (journal_name number) ≡ None → (other : List ℕ) (e : Entry)
            → HeldAt other (after other) e
            → Held (with_file after (journal_name number) (shown_now (old.entries (journal_name number)))) e
        with_none after none other e at = ⊎_elim
            (λ (is : other ≡ name). absurd (subst (λ (o : Option (List ℕ)). HeldAt other o e) (ap after is ∙ none) at))
            (λ (differs : other ≢ name). record {
              name = other;
              at = subst (λ (o : Option (List ℕ)). HeldAt other o e)
                  (sym (with-other after name other shown differs)) at;
            })
            (same_or_apart other name)

-- ---- several are

pub lost_journals : (old new : State) (numbers : List ℕ) → LosesOnly old new numbers → (e : Entry) → JournalsHave new e
    → JournalsHave old e
lost_journals old new numbers only e has = ⊎_elim
    (λ same. record {
      number = has.number;
      octets = has.octets;
      small = has.small;
      shown = ap shown_now (sym same) ∙ has.shown;
      has = has.has;
    })
    (λ gone. let none = gone.none in absurd (cc (none, has.shown)))
    (only (journal_name has.number))

pub lost_segments : (old new : State) (numbers : List ℕ) → LosesOnly old new numbers → (e : Entry) → InSegment old e
    → InSegment new e
lost_segments old new numbers only =
    segments_less old new (λ day name segment octets may. ⊎_elim
    (λ same. subst (λ (x : DiskEntry). NameMayLeave x octets) same may)
    (λ gone. absurd (not_both day name
    (record { number = gone.number; small = gone.small; name_is = gone.name_is }) segment))
    (only name))

pub lost_grow : (old new : State) (numbers : List ℕ) → LosesOnly old new numbers → SegmentsGrow 0 old new
lost_grow old new numbers only =
    none_grow old new (λ period name segment. ⊎_elim
    (λ same. ap shown_now same)
    (λ gone. absurd (not_both period name
    (record { number = gone.number; small = gone.small; name_is = gone.name_is }) segment))
    (only name))

-- a journal that is none of them is as it was
pub lost_apart : (old new : State) (numbers : List ℕ) (n : ℕ) → n < 2 ^ 64 → LosesOnly old new numbers
    → ¬ (Contains numbers n) → new.entries (journal_name n) ≡ old.entries (journal_name n)
lost_apart old new numbers n small only apart = ⊎_elim
    (λ same. same)
    (λ gone. absurd (apart (subst (Contains numbers) (other_number gone.number n gone.small small (sym gone.name_is))
    gone.one)))
    (only (journal_name n))

-- ---- one after the other

-- some journals were removed
pub record Shed (old new : State) (numbers : List ℕ) : Type 0 where
  pub only : LosesOnly old new numbers
  pub lost : new.lost ≡ old.lost
  pub keeps : AreInSegments old numbers → (committed received : List Entry) → Keeps old committed received
      → Keeps new committed received

pub shed_none : (state : State) → Shed state state []
shed_none state =
    record { only = λ name. inl refl; lost = refl; keeps = λ are committed received keeps. keeps }

-- of others too
pub shed_whole : (old new : State) (some all : List ℕ) → ((n : ℕ) → Contains some n → Contains all n)
    → Shed old new some → Shed old new all
shed_whole old new some all among shed = record {
  only = λ name. ⊎_elim
      (λ same. inl same)
      (λ gone. inr (record {
        number = gone.number;
        small = gone.small;
        one = among gone.number gone.one;
        name_is = gone.name_is;
        none = gone.none;
      }))
      (shed.only name);
  lost = shed.lost;
  keeps = λ are. shed.keeps (λ n octets has. are n octets (among n has));
}

-- all of them
pub whole_shed : (zero one : State) (numbers : List ℕ) (index : ℕ) → length numbers ≤ index
    → Shed zero one (take index numbers) → Shed zero one numbers
whole_shed zero one numbers index past shed = subst (Shed zero one) (take_all index numbers past) shed

module _ (zero one two : State) (numbers : List ℕ) (number : ℕ) (small : number < 2 ^ 64) (shed : Shed zero one numbers)
    (done : IsUnchanged one two ⊎ RemovesFile one two (journal_name number)) where
  now_gone : RemovesFile one two (journal_name number) → journal_shown two number ≡ None
  now_gone removes = ap shown_now removes.entry.here

  stays : (name : List ℕ) → (two.entries name ≡ one.entries name)
      ⊎ ((name ≡ journal_name number) × (shown_now (two.entries name) ≡ None))
  stays name = ⊎_elim
      (λ same. inl (same.entries name))
      (λ removes. ⊎_elim
      (λ (is : name ≡ journal_name number). inr (
        is,
        ap (λ (n : List ℕ). shown_now (two.entries n)) is ∙ now_gone removes,
      ))
      (λ (apart : name ≢ journal_name number). inl (removes.entry.others name apart))
      (same_or_apart name (journal_name number)))
      done

  more_only : LosesOnly zero two (numbers ++ number ∷ [])
  more_only name = ⊎_elim
      (λ same. ⊎_elim
      (λ was. inl (same ∙ was))
      (λ gone. inr (record {
        number = gone.number;
        small = gone.small;
        one = Contains-append_left numbers (number ∷ []) gone.number gone.one;
        name_is = gone.name_is;
        none = ap shown_now same ∙ gone.none;
      }))
      (shed.only name))
      (λ removed. inr (record {
        number = number;
        small = small;
        one = Contains-push numbers number;
        name_is = removed.0;
        none = removed.1;
      }))
      (stays name)

  -- what is shown of it was shown before
  known : AreInSegments zero (numbers ++ number ∷ []) → (octets : List ℕ) → journal_shown one number ≡ Some octets
      → (e : Entry) → JournalHas octets e → InSegment one e
  known are octets shown e has = ⊎_elim
      (λ same. lost_segments zero one numbers shed.only e
      (are number octets (Contains-push numbers number) (ap shown_now (sym same) ∙ shown) e has))
      (λ gone. let none = gone.none in absurd (cc (none, shown)))
      (shed.only (journal_name number))

  pub shed_more : Shed zero two (numbers ++ number ∷ [])
  shed_more = record {
    only = more_only;
    lost = ⊎_elim (λ same. same.lost) (λ removes. removes.entry.lost) done ∙ shed.lost;
    keeps = λ are committed received keeps.
        removed_keeps one two number small done (known are) committed received
        (shed.keeps (λ n octets has. are n octets (Contains-append_left numbers (number ∷ []) n has)) committed received
        keeps);
  }

  -- they are gone
  pub gone_more : ((n : ℕ) → Contains numbers n → journal_shown one n ≡ None) → journal_shown two number ≡ None
      → (n : ℕ) → Contains (numbers ++ number ∷ []) n → journal_shown two n ≡ None
  gone_more before now n has = ⊎_elim
      (λ first. ⊎_elim
      (λ same. ap shown_now same ∙ before n first)
      (λ removed. removed.1)
      (stays (journal_name n)))
      (λ (is : number ≡ n). subst (λ (k : ℕ). journal_shown two k ≡ None) is now)
      (Contains-push_cases numbers number n has)

-- one that is named once was there
pub there_still : (zero one : State) (all numbers : List ℕ) (number : ℕ) → number < 2 ^ 64 → Shed zero one numbers
    → all ≡ numbers ++ number ∷ [] → IsStrictlyIncreasing all
    → journal_shown zero number ≢ None → journal_shown one number ≢ None
there_still zero one all numbers number small shed is ascend shown none = ⊎_elim
    (λ same. shown (ap shown_now (sym same) ∙ none))
    (λ gone.
    let same : gone.number ≡ number = other_number gone.number number gone.small small (sym gone.name_is) in
    last_apart numbers number (subst IsStrictlyIncreasing is ascend) (subst (Contains numbers) same gone.one))
    (shed.only (journal_name number))

-- ---- nothing has changed

pub others_from : (zero one two : State) (name : List ℕ) → IsUnchanged zero one → KeepsOrSettlesOthers one two name
    → KeepsOrSettlesOthers zero two name
others_from zero one two name same others other apart = ⊎_elim
    (λ as_was. inl (as_was ∙ same.entries other))
    (λ on_disk. inr (on_disk ∙ ap kept (same.entries other)))
    (others other apart)

pub ready_same : (old new : State) (store : RecordStore) (since : List Entry) → IsUnchanged old new
    → IsReady store old since → IsReady store new since
ready_same old new store since same ready = record {
  small = ready.small;
  named = ready.named;
  bodies = ready.bodies;
  stands = record {
    gate = ready.stands.gate;
    closed = ready.stands.closed;
    entry = same.entries store.journal.name ∙ ready.stands.entry;
    sound = same.lost ∙ ready.stands.sound;
    end = ready.stands.end;
    sized = ready.stands.sized;
  };
  has = ready.has;
  newest = λ n later small. same.entries (journal_name n) ∙ ready.newest n later small;
}

pub apart_same : (old new : State) (es : List Entry) → IsUnchanged old new → HeldApart old es → HeldApart new es
apart_same old new es same apart e has =
    segments_less old new (λ day name segment octets may.
    subst (λ (x : DiskEntry). NameMayLeave x octets) (same.entries name) may) e (apart e has)

pub made_apart : (old new : State) (number : ℕ) → number + 1 < 2 ^ 64
    → KeepsOrSettlesOthers old new (journal_name (number + 1)) → (es : List Entry) → HeldApart old es
    → HeldApart new es
made_apart old new number fits others es apart e has =
    segments_beside old new (journal_name (number + 1))
    (record { number = number + 1; small = fits; name_is = refl }) others e (apart e has)

pub lost_apart_held : (old new : State) (numbers : List ℕ) → LosesOnly old new numbers → (es : List Entry)
    → HeldApart old es → HeldApart new es
lost_apart_held old new numbers only es apart e has = lost_segments old new numbers only e (apart e has)

-- the first of those that were shown are shown, each once, beside the next journal
pub each_of : (zero one : State) (last count : ℕ) (numbers : List ℕ) → last + 1 < 2 ^ 64 → AreShown zero last numbers
    → KeepsOrSettlesOthers zero one (journal_name (last + 1)) → AreEachShown one (take count numbers)
each_of zero one last count numbers fits are others = record {
  ascend = increasing_take count numbers are.ascend;
  shown = λ n has none.
      let is = (are.are n).0 (take_part count numbers n has) in
      is.1 (sym (settled_shown (zero.entries (journal_name n)) (one.entries (journal_name n))
      (others (journal_name n) (λ same.
      let wrong : n ≡ last + 1 = other_number n (last + 1) (omega (arith, is.0, fits)) fits same in
      absurd (omega (arith, wrong, is.0))))) ∙ none);
}

-- segments hold what some of the journals have
pub all_in_segments : (state : State) (last : ℕ) (some : List ℕ) (since : List Entry) → last < 2 ^ 64
    → ((n : ℕ) → Contains some n → n ≤ last) → JournalsWithin state since → HeldApart state since
    → AreInSegments state some
all_in_segments state last some since small below within apart n octets has shown e held =
    ⊎_elim (λ those. apart e those) (λ segment. segment)
    (within e (record {
      number = n;
      octets = octets;
      small = omega (arith, small, below n has);
      shown = shown;
      has = held;
    }))

-- ---- the next one is made

module _ (zero one : State) (store : RecordStore) (since : List Entry) (ready : IsReady store zero since) (number : ℕ)
    (number_is : store.number ≡ number) (fits : number + 1 < 2 ^ 64)
    (others : KeepsOrSettlesOthers zero one (journal_name (number + 1))) where
  pub next_none : journal_shown zero (number + 1) ≡ None
  next_none = ap shown_now (ready.newest (number + 1) (omega (arith, number_is)) fits)

  pub next_keeps : LeavesNoBatch zero one (journal_name (number + 1)) → (committed received : List Entry)
      → Keeps zero committed received → Keeps one committed received
  next_keeps leaves committed received keeps =
      create_keeps zero one (number + 1) (journal_name (number + 1)) fits refl next_none others leaves committed received
      keeps

  pub next_within : ShowsNoBatch one (journal_name (number + 1)) → ShowsWithin one since
  next_within no_batches =
      create_within zero one (number + 1) (journal_name (number + 1)) fits refl next_none others since no_batches
      (ready_shows store zero since ready)

  next_journal : IsJournal (journal_name (number + 1))
  next_journal = record { number = number + 1; small = fits; name_is = refl }

  pub next_segments : (e : Entry) → InSegment zero e → InSegment one e
  next_segments = segments_beside zero one (journal_name (number + 1)) next_journal others

  pub next_older : ShowsNoBatch one (journal_name (number + 1)) → JournalsWithin zero since → JournalsWithin one since
  next_older no_batches =
      create_older zero one (number + 1) (journal_name (number + 1)) fits refl next_none others since no_batches

  module _ (two : State) (numbers : List ℕ) (only : LosesOnly one two numbers)
      (below : (n : ℕ) → Contains numbers n → n ≤ number) where
    kept_later : (n : ℕ) → number < n → n < 2 ^ 64 → two.entries (journal_name n) ≡ one.entries (journal_name n)
    kept_later n above small =
        lost_apart one two numbers n small only (λ has. omega (arith, above, below n has))

    pub then_older : ShowsNoBatch one (journal_name (number + 1)) → JournalsWithin zero since
        → JournalsWithin two since
    then_older no_batches older =
        within_then one two since (lost_journals one two numbers only) (lost_segments one two numbers only)
        (next_older no_batches older)

    module _ (after : RecordStore) (name_is : after.journal.name ≡ journal_name (number + 1))
        (after_number : after.number ≡ number + 1) (lost : two.lost ≡ one.lost)
        (settles : SettlesOthers zero one (journal_name (number + 1)))
        (journal : JournalStands after.journal one []) where
      ready_one : IsReady after one []
      ready_one =
          create_ready zero one (number + 1) (journal_name (number + 1)) fits refl next_none others after []
          (λ n above small. ap shown_now (ready.newest n (omega (arith, number_is, above)) small)) after_number name_is
          settles journal

      pub then_ready : IsReady after two []
      then_ready = record {
        small = ready_one.small;
        named = ready_one.named;
        bodies = [];
        stands = record {
          gate = journal.gate;
          closed = journal.closed;
          entry = ap two.entries name_is ∙ kept_later (number + 1) (omega arith) fits ∙ ap one.entries (sym name_is)
              ∙ journal.entry;
          sound = lost ∙ journal.sound;
          end = journal.end;
          sized = journal.sized;
        };
        has = λ e has. absurd has;
        newest = λ n later small.
            kept_later n (omega (arith, later, after_number)) small ∙ ready_one.newest n later small;
      }

      pub then_within : (es : List Entry) → ShowsWithin two es
      then_within es m octets newest e has = absurd (ready_shows after two [] then_ready m octets newest e has)

-- ---- which were removed

-- the oldest of those that were shown are gone
pub sheds_oldest : (zero one two : State) (last : ℕ) (numbers : List ℕ) → last + 1 < 2 ^ 64
    → AreShown zero last numbers
    → KeepsOrSettlesOthers zero one (journal_name (last + 1)) → LosesOnly one two (take 64 numbers)
    → ((n : ℕ) → Contains (take 64 numbers) n → journal_shown two n ≡ None) → ShedsOldest 64 zero two last
sheds_oldest zero one two last numbers fits are others only gone = record {
  numbers = numbers;
  are = are;
  gone = gone;
  stay = λ n small apart differs.
      ap shown_now (lost_apart one two (take 64 numbers) n small only differs)
      ∙ settled_shown (zero.entries (journal_name n)) (one.entries (journal_name n))
      (others (journal_name n) (λ is. apart (other_number n (last + 1) small fits is)));
}

-- the journals were shown as they are
pub sheds_beside : (zero one two : State) (last : ℕ) → last < 2 ^ 64
    → ((n : ℕ) → n < 2 ^ 64 → journal_shown one n ≡ journal_shown zero n) → ShedsOldest 64 one two last
    → ShedsOldest 64 zero two last
sheds_beside zero one two last small same sheds = record {
  numbers = sheds.numbers;
  are = record {
    ascend = sheds.are.ascend;
    are = λ n. (
      λ has.
          let is = (sheds.are.are n).0 has in
          (is.0, λ none. is.1 (same n (omega (arith, is.0, small)) ∙ none)),
      λ is. (sheds.are.are n).1 (is.0, λ none. is.1 (sym (same n (omega (arith, is.0, small))) ∙ none)),
    );
  };
  gone = sheds.gone;
  stay = λ n n_small apart differs. sheds.stay n n_small apart differs ∙ same n n_small;
}

-- ---- the store goes on with it

pub turned_stands : (store after : RecordStore) (new : State) (sets : Sets)
    → Keeps new sets.committed sets.received → HeldApart new sets.since → JournalsWithin new sets.since
    → after.batch.items ≡ [] → IsReady after new [] → Stands after new (turned sets)
turned_stands store after new sets keeps apart older empty ready = record {
  keeps = record {
    nothing_lost = λ files may e has. ⊎_elim
        (λ before. keeps.nothing_lost files may e before)
        (λ since.
        let held = apart e since in
        record { name = held.name; at = held.holds (files held.name) (may held.name (inr (held.day, held.segment))) })
        (has_either sets.committed sets.since e has);
    nothing_forged = keeps.nothing_forged;
  };
  batch = subst (AreEntries []) (sym empty) none_wait;
  waits = λ e has. absurd has;
  within = λ e has. absurd has;
  ready = λ whole. ready;
  shows = λ sound. ready_shows after new [] ready;
  older = λ sound. held_journals new sets.since apart older;
}

pub broken_stands : (store after : RecordStore) (old new : State) (sets : Sets) → Stands store old sets
    → after.batch.items ≡ store.batch.items → after.broken ≡ true → Keeps new sets.committed sets.received
    → (new.lost ≡ false → ShowsWithin new sets.since) → (new.lost ≡ false → JournalsWithin new sets.since)
    → Stands after new sets
broken_stands store after old new sets stands same broken keeps shows older = record {
  keeps = keeps;
  batch = subst (AreEntries sets.waiting) (sym same) stands.batch;
  waits = stands.waits;
  within = stands.within;
  ready = λ whole. absurd (cc (broken, whole));
  shows = shows;
  older = older;
}

-- a store is opened again
pub reopened_stands : (store opened after : RecordStore) (old new : State) (sets : Sets) → Stands store old sets
    → Stands opened new (begun sets.committed sets.received sets.since) → opened.broken ≡ false
    → after.batch.items ≡ store.batch.items → after.journal ≡ opened.journal → after.number ≡ opened.number
    → Stands after new sets
reopened_stands store opened after old new sets stands is whole same same_journal same_number =
    let ready = ready_as opened after new sets.since same_journal same_number (is.ready whole) in
    record {
      keeps = is.keeps;
      batch = subst (AreEntries sets.waiting) (sym same) stands.batch;
      waits = stands.waits;
      within = stands.within;
      ready = λ not_broken. ready;
      shows = is.shows;
      older = is.older;
    }
