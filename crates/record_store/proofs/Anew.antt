-- The newest journal is written anew.
use Rattle.std.proofs.Common.{◌≡◌, ◌≢◌, ◌⊎◌, inl, inr, ⊎_elim, ℕ, ◌+◌, ◌<◌, ◌≤◌, ◌^◌, List, [], ◌++◌, length, take, drop}
use Rattle.std.proofs.Common.{refl, sym, ap, subst, ◌∙◌, arith, get_or}
use Rattle.std.specs.Prelude.{Err, IsSomeAnd, None, Ok, OnOk, Option, Result, Some}
use Rattle.std.specs.Option.{option_map}
use Rattle.std.proofs.Math.Seq.{take-add}
use Rattle.std.proofs.lemmas.List.{length-drop}
use Rattle.disk.specs.Calls.{ChangesFile, Gives, IsUnchanged, Reads, Removes, RemovesFile}
use Rattle.disk.specs.Files.{File, appended, settled}
use Rattle.disk.specs.Memory.{shown_now}
use Rattle.disk.specs.States.{Entry as DiskEntry, Files, NameMayLeave, State}
use Rattle.disk.specs.declared.fault.DiskFault.{DiskFault}
use Rattle.journal.specs.Journals.{IsOnDisk, IsSound, KeepsOthers, only_file}
use Rattle.archive_text.specs.Entries.{Entry, Has}
use Rattle.record_store.specs.Crashes.{Keeps, MayLeaveCounted}
use Rattle.record_store.specs.Holdings.{HeldAt}
use Rattle.record_store.specs.Names.{Counts, IsJournal, IsSegment, journal_name}
use Rattle.record_store.specs.Puts.{KeepsOrSettlesApart, LeavesOldOr}
use Rattle.record_store.specs.Renewals.{AreRenewalNames, Renewed, renewal_name}
use Rattle.record_store.specs.Shown.{IsNewestShown, journal_shown}
use Rattle.record_store.proofs.Covering.{Covered, CoveredAt, Covers, OthersLeaveLess, covered_as_before, covers_keeps}
use Rattle.record_store.proofs.Covering.{less_covers, one_covers, with-here, with-other, with_file}
use Rattle.record_store.proofs.Folders.{gone_holds, nothing}
use Rattle.record_store.proofs.Leavings.{only_is, retired_leaves, settled_may, settled_shown, shown_left}
use Rattle.record_store.proofs.Named.{not_both, numbers_apart, other_number, same_or_apart, segment_long}
use Rattle.record_store.proofs.Showing.{newest_on}

-- ---- a file is copied

-- what a call gives of the file that is shown
gives_shown : (now : Option File) (text buf : List ℕ) (at n : ℕ)
    → option_map (λ (f : File). f.shown) now ≡ Some text → IsSomeAnd now (λ file. Gives file at buf n)
    → (take n buf ≡ take n (drop at text)) × (n ≤ length (drop at text))
    × (n ≡ 0 → 0 < length buf → length text ≤ at)
gives_shown None text buf at n shown gives = absurd gives
gives_shown (Some file) text buf at n shown gives =
    let same : file.shown ≡ text = cc shown in
    subst (λ (l : List ℕ). (take n buf ≡ take n (drop at l)) × (n ≤ length (drop at l))
    × (n ≡ 0 → 0 < length buf → length l ≤ at)) same (gives.octets, gives.within, gives.ends)

pub append_shown : (old new : State) (name before octets : List ℕ) → shown_now (old.entries name) ≡ Some before
    → ChangesFile old new name (appended octets) → shown_now (new.entries name) ≡ Some (before ++ octets)
append_shown old new name before octets shown changes =
    let now : shown_now (old.entries name) ≡ Some changes.file.shown =
    ap (option_map (λ (f : File). f.shown)) changes.was in
    let some : Some changes.file.shown ≡ Some before = sym now ∙ shown in
    let same : changes.file.shown ≡ before = cc some in
    ap shown_now changes.entry.here ∙ ap (λ (l : List ℕ). Some (l ++ octets)) same

-- so much of a file has been copied to another one
abbrev pub CopiedUpTo : State → State → List ℕ → List ℕ → ℕ → Type 0
CopiedUpTo zero one from to at = IsSound zero → from ≢ to → (text : List ℕ)
    → shown_now (zero.entries from) ≡ Some text → shown_now (zero.entries to) ≡ Some []
    → (at ≤ length text) × (shown_now (one.entries to) ≡ Some (take at text))

pub copied_none : (zero : State) (from to : List ℕ) → CopiedUpTo zero zero from to 0
copied_none zero from to sound apart text shown empty = (omega arith, empty)

module _ (zero one two : State) (from to buf : List ℕ) (at n : ℕ) (others : KeepsOthers zero one to)
    (lost : one.lost ≡ zero.lost) (copied : CopiedUpTo zero one from to at)
    (reads : Reads one two from at buf (Ok n)) where
  pub copy_more : (three : State) → ChangesFile two three to (appended (take n buf))
      → CopiedUpTo zero three from to (at + n)
  copy_more three appends sound apart text shown empty =
      let was = copied sound apart text shown empty in
      let gives = gives_shown (one.entries from).now text buf at n (ap shown_now (others from apart) ∙ shown)
      (reads.gives (lost ∙ sound)) in
      let added = append_shown two three to (take at text) (take n buf)
      (ap shown_now (reads.same.entries to) ∙ was.1) appends in (
        omega (arith, was.0, gives.1, length-drop at text),
        added
            ∙ ap (λ (l : List ℕ). Some (take at text ++ l)) gives.0
            ∙ ap (λ (l : List ℕ). Some l) (sym (take-add at n text)),
      )

-- ---- the draft

pub renewal_apart : ¬ (Counts renewal_name)
renewal_apart (inl journal) = omega (arith, ap (λ (l : List ℕ). get_or l 0 0) journal.name_is)
renewal_apart (inr (day, segment)) = not_long day segment
  where
    not_long : (day : List ℕ) → IsSegment day renewal_name → ⊥
    not_long day segment = omega (arith, segment_long day renewal_name segment)

journal_counts : (n : ℕ) → n < 2 ^ 64 → Counts (journal_name n)
journal_counts n small = inl (record { number = n; small = small; name_is = refl })

journal_apart : (n : ℕ) → n < 2 ^ 64 → (draft : List ℕ) → ¬ (Counts draft) → journal_name n ≢ draft
journal_apart n small draft apart is = apart (subst Counts is (journal_counts n small))

-- only the draft has changed
module _ (old new : State) (draft : List ℕ) (apart : ¬ (Counts draft)) (others : KeepsOthers old new draft) where
  pub draft_keeps : (committed received : List Entry) → Keeps old committed received → Keeps new committed received
  draft_keeps committed received keeps =
      covers_keeps old new nothing
      (less_covers old new nothing
      (λ name counts octets may. subst (λ (e : DiskEntry). NameMayLeave e octets)
      (others name (λ is. apart (subst Counts is counts))) may))
      committed received (λ e none. absurd none) keeps

  pub draft_newest : (number : ℕ) (text : List ℕ) → IsNewestShown old number text → IsNewestShown new number text
  draft_newest number text newest =
      newest_on old new number text
      (λ n small. ap shown_now (others (journal_name n) (journal_apart n small draft apart))) newest

-- ---- the next journal has its name

module _ (number : ℕ) (text : List ℕ) (fits : number + 1 < 2 ^ 64) where
  this_is : IsJournal (journal_name number)
  this_is = record { number = number; small = omega (arith, fits); name_is = refl }

  next_is : IsJournal (journal_name (number + 1))
  next_is = record { number = number + 1; small = fits; name_is = refl }

  next_apart : journal_name (number + 1) ≢ journal_name number
  next_apart = numbers_apart number (number + 1) (omega (arith, fits)) (omega arith) fits (journal_name number) refl

  -- a file holds the same under either name
  held_here : (e : Entry) → HeldAt (journal_name (number + 1)) (Some text) e → HeldAt (journal_name number) (Some text) e
  held_here e (inl journal) = inl (this_is, journal.1)
  held_here e (inr (day, segment, has)) = absurd (not_both day (journal_name (number + 1)) next_is segment)

  held_next : (e : Entry) → HeldAt (journal_name number) (Some text) e → HeldAt (journal_name (number + 1)) (Some text) e
  held_next e (inl journal) = inl (next_is, journal.1)
  held_next e (inr (day, segment, has)) = absurd (not_both day (journal_name number) this_is segment)

  module _ (old new : State) (draft : List ℕ) (newest : IsNewestShown old number text) (apart : ¬ (Counts draft))
      (others : KeepsOrSettlesApart old new draft (journal_name (number + 1))) where
    abbrev given : Entry → Type 0
    given e = HeldAt (journal_name number) (Some text) e

    next_none : shown_now (old.entries (journal_name (number + 1))) ≡ None
    next_none = newest.none_above (number + 1) (omega arith) fits

    next_at : LeavesOldOr old new (journal_name (number + 1)) text → (octets : Option (List ℕ))
        → NameMayLeave (new.entries (journal_name (number + 1))) octets
        → CoveredAt old (journal_name (number + 1)) octets given
    next_at leaves octets may = ⊎_elim
        (λ before. covered_as_before old (journal_name (number + 1)) octets given before)
        (λ (whole : octets ≡ Some text). record {
          was = None;
          may = subst (NameMayLeave (old.entries (journal_name (number + 1)))) next_none
              (shown_left (old.entries (journal_name (number + 1))));
          holds = record {
            kept = λ e held. absurd held;
            only = λ e held. inr (held_here e (subst (λ (o : Option (List ℕ)). HeldAt (journal_name (number + 1)) o e)
                whole held));
          };
        })
        (leaves octets may)

    others_less : OthersLeaveLess old new (journal_name (number + 1))
    others_less other counts differs octets may =
        settled_may (old.entries other) (new.entries other) octets
        (others other (λ same. apart (subst Counts same counts)) differs) may

    given_were : (committed received : List Entry) → Keeps old committed received → (e : Entry) → given e → Has received e
    given_were committed received keeps e held =
        keeps.nothing_forged (λ name. shown_now (old.entries name)) (λ name counts. shown_left (old.entries name)) e
        (record {
          name = journal_name number;
          at = subst (λ (o : Option (List ℕ)). HeldAt (journal_name number) o e) (sym newest.shown) held;
        })

    pub next_keeps : LeavesOldOr old new (journal_name (number + 1)) text → (committed received : List Entry)
        → Keeps old committed received → Keeps new committed received
    next_keeps leaves committed received keeps =
        covers_keeps old new given
        (one_covers old new (journal_name (number + 1)) given (inl next_is) others_less (next_at leaves)) committed
        received (given_were committed received keeps) keeps

    -- a read shows the other journals as before
    pub next_shown : (n : ℕ) → n < 2 ^ 64 → n ≢ number + 1 → journal_shown new n ≡ journal_shown old n
    next_shown n small differs =
        settled_shown (old.entries (journal_name n)) (new.entries (journal_name n))
        (others (journal_name n) (journal_apart n small draft apart)
        (λ same. differs (other_number n (number + 1) small fits same)))

  -- ---- the one before is removed

  module _ (old new : State) (on_disk : IsOnDisk old (journal_name (number + 1)) text)
      (shown : journal_shown old number ≡ Some text)
      (done : IsUnchanged old new ⊎ RemovesFile old new (journal_name number)) where
    others_same : (other : List ℕ) → other ≢ journal_name number → new.entries other ≡ old.entries other
    others_same other differs =
        ⊎_elim (λ same. same.entries other) (λ removes. removes.entry.others other differs) done

    left : (octets : Option (List ℕ)) → NameMayLeave (new.entries (journal_name number)) octets
        → NameMayLeave (old.entries (journal_name number)) octets ⊎ (octets ≡ None)
    left octets may = ⊎_elim
        (λ same. inl (subst (λ (e : DiskEntry). NameMayLeave e octets) (same.entries (journal_name number)) may))
        (λ removes. retired_leaves (old.entries (journal_name number)) octets
        (subst (λ (e : DiskEntry). NameMayLeave e octets) removes.entry.here may))
        done

    others_may : (after : Files) → MayLeaveCounted new after → (other : List ℕ) → Counts other
        → other ≢ journal_name number → NameMayLeave (old.entries other) (after other)
    others_may after may other counts differs =
        subst (λ (e : DiskEntry). NameMayLeave e (after other)) (others_same other differs) (may other counts)

    -- what was there before
    as_before : (after : Files) → MayLeaveCounted new after
        → NameMayLeave (old.entries (journal_name number)) (after (journal_name number)) → Covered old after nothing
    as_before after may here = record {
      before = after;
      may = λ other counts. ⊎_elim
          (λ (same : other ≡ journal_name number). subst (λ (n : List ℕ). NameMayLeave (old.entries n) (after n))
          (sym same) here)
          (λ differs. others_may after may other counts differs)
          (same_or_apart other (journal_name number));
      holds = record { kept = λ e held. held; only = λ e held. inl held };
    }

    -- the folder with what is shown in its place
    abbrev with_shown : Files → Files
    with_shown after = with_file after (journal_name number) (Some text)

    shown_here : (after : Files) → with_shown after (journal_name number) ≡ Some text
    shown_here after = with-here after (journal_name number) (journal_name number) (Some text) refl

    may_shown : (after : Files) → MayLeaveCounted new after → MayLeaveCounted old (with_shown after)
    may_shown after may other counts = ⊎_elim
        (λ (same : other ≡ journal_name number). subst (λ (n : List ℕ). NameMayLeave (old.entries n)
        (with_shown after n)) (sym same)
        (subst (λ (o : Option (List ℕ)). NameMayLeave (old.entries (journal_name number)) o)
        (shown ∙ sym (shown_here after)) (shown_left (old.entries (journal_name number)))))
        (λ (differs : other ≢ journal_name number). subst (λ (o : Option (List ℕ)). NameMayLeave (old.entries other) o)
        (sym (with-other after (journal_name number) other (Some text) differs))
        (others_may after may other counts differs))
        (same_or_apart other (journal_name number))

    next_left : (after : Files) → MayLeaveCounted new after → with_shown after (journal_name (number + 1)) ≡ Some text
    next_left after may =
        with-other after (journal_name number) (journal_name (number + 1)) (Some text) next_apart
        ∙ only_is text (after (journal_name (number + 1)))
        (subst (λ (e : DiskEntry). NameMayLeave e (after (journal_name (number + 1))))
        (others_same (journal_name (number + 1)) next_apart ∙ on_disk.entry)
        (may (journal_name (number + 1)) (inl next_is)))

    -- nothing is there any more
    as_gone : (after : Files) → MayLeaveCounted new after → after (journal_name number) ≡ None → Covered old after nothing
    as_gone after may none = record {
      before = with_shown after;
      may = may_shown after may;
      holds = gone_holds (with_shown after) after (journal_name number)
          (λ other counts differs. sym (with-other after (journal_name number) other (Some text) differs))
          (inr none)
          (λ e held. (
            journal_name (number + 1),
            next_apart,
            subst (λ (o : Option (List ℕ)). HeldAt (journal_name (number + 1)) o e) (sym (next_left after may))
                (held_next e (subst (λ (o : Option (List ℕ)). HeldAt (journal_name number) o e) (shown_here after) held)),
          ));
    }

    remove_covers : Covers old new nothing
    remove_covers after may = ⊎_elim
        (λ before. as_before after may before)
        (λ none. as_gone after may none)
        (left (after (journal_name number)) (may (journal_name number) (inl this_is)))

    pub remove_keeps : (committed received : List Entry) → Keeps old committed received → Keeps new committed received
    remove_keeps committed received keeps =
        covers_keeps old new nothing remove_covers committed received (λ e none. absurd none) keeps

-- ---- all of it

pub renewed_before : (zero one two : State) (number : ℕ) (text : List ℕ) → IsNewestShown zero number text
    → Renewed one two number text → Renewed zero two number text
renewed_before zero one two number text was renewed =
    record { was = was; now = renewed.now; on_disk = renewed.on_disk; gone = renewed.gone }

pub removes_any : {T : Type 0} (old new : State) (name : List ℕ) (removed : Result T DiskFault)
    → Removes old new name removed → IsUnchanged old new ⊎ RemovesFile old new name
removes_any old new name (Ok done) removes = inr removes
removes_any old new name (Err fault) fails = fails.done

pub once_removed : {T : Type 0} (tells P : Type 0) (old new : State) (name : List ℕ) (removed : Result T DiskFault)
    → (tells → Removes old new name removed) → (tells → RemovesFile old new name → P) → OnOk removed (tells → P)
once_removed tells P old new name (Ok done) removes then = λ told. then told (removes told)
once_removed tells P old new name (Err fault) removes then = tt

module _ (zero one : State) (number : ℕ) (text name draft next : List ℕ)
    (names : AreRenewalNames number name draft next) (newest : IsNewestShown zero number text)
    (drafted : KeepsOthers zero one draft) where
  apart : ¬ (Counts draft)
  apart counts = renewal_apart (subst Counts names.draft_is counts)

  still : IsNewestShown one number text
  still = draft_newest zero one draft apart drafted number text newest

  pub name_shown : shown_now (zero.entries name) ≡ Some text
  name_shown = ap (λ (n : List ℕ). shown_now (zero.entries n)) names.name_is ∙ newest.shown

  pub name_apart : name ≢ draft
  name_apart is = journal_apart number (omega (arith, names.fits)) draft apart (sym names.name_is ∙ is)

  pub next_no_draft : next ≢ draft
  next_no_draft is = journal_apart (number + 1) names.fits draft apart (sym names.next_is ∙ is)

  pub drafted_keeps : (committed received : List Entry) → Keeps zero committed received
      → Keeps one committed received
  drafted_keeps = draft_keeps zero one draft apart drafted

  module _ (two : State) (leaves : LeavesOldOr one two next text) (settles : KeepsOrSettlesApart one two draft next) where
    others : KeepsOrSettlesApart one two draft (journal_name (number + 1))
    others = subst (λ (n : List ℕ). KeepsOrSettlesApart one two draft n) names.next_is settles

    pub placed_keeps : (committed received : List Entry) → Keeps zero committed received
        → Keeps two committed received
    placed_keeps committed received keeps =
        next_keeps number text names.fits one two draft still apart others
        (subst (λ (n : List ℕ). LeavesOldOr one two n text) names.next_is leaves) committed received
        (drafted_keeps committed received keeps)

    still_shown : journal_shown two number ≡ Some text
    still_shown =
        next_shown number text names.fits one two draft still apart others number (omega (arith, names.fits))
        (λ is. omega (arith, is)) ∙ still.shown

    module _ (on_disk : IsOnDisk two next text) (three : State) where
      next_on_disk : IsOnDisk two (journal_name (number + 1)) text
      next_on_disk = subst (λ (n : List ℕ). IsOnDisk two n text) names.next_is on_disk

      pub moved_keeps : IsUnchanged two three ⊎ RemovesFile two three name → (committed received : List Entry)
          → Keeps zero committed received → Keeps three committed received
      moved_keeps done committed received keeps =
          remove_keeps number text names.fits two three next_on_disk still_shown
          (subst (λ (n : List ℕ). IsUnchanged two three ⊎ RemovesFile two three n) names.name_is done) committed received
          (placed_keeps committed received keeps)

      pub moved_is : RemovesFile two three name → Renewed zero three number text
      moved_is removed =
          let removes = subst (λ (n : List ℕ). RemovesFile two three n) names.name_is removed in
          let entry = removes.entry.others (journal_name (number + 1)) (next_apart number text names.fits)
          ∙ next_on_disk.entry in
          record {
            was = newest;
            now = record {
              small = names.fits;
              shown = ap shown_now entry;
              none_above = λ n above small.
                  ap shown_now (removes.entry.others (journal_name n)
                  (numbers_apart number n (omega (arith, names.fits)) (omega (arith, above)) small (journal_name number)
                  refl))
                  ∙ next_shown number text names.fits one two draft still apart others n small
                  (λ is. omega (arith, is, above))
                  ∙ still.none_above n (omega (arith, above)) small;
            };
            on_disk = record { entry = entry; sound = removes.entry.lost ∙ next_on_disk.sound };
            gone = ap shown_now removes.entry.here;
          }
