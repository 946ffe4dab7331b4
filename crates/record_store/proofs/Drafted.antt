-- A segment is brought to the disk.
use Rattle.std.proofs.Common.{◌≡◌, ◌≢◌, inl, inr, ⊎_elim, ℕ, ◌<◌, ◌^◌, Bool, if◌then◌else◌, List, [], ◌∷◌, refl, sym, ap, subst, ◌∙◌}
use Rattle.std.specs.Prelude.{Option, Some, false}
use Rattle.disk.specs.Calls.{ChangesFile, FailsAt, Loses}
use Rattle.disk.specs.Files.{File, settled}
use Rattle.disk.specs.Memory.{shown_now}
use Rattle.disk.specs.States.{Entry as DiskEntry, NameMayLeave, State, kept}
use Rattle.disk.specs.declared.fault.DiskFault.{DiskFault}
use Rattle.journal.specs.Journals.{IsOnDisk, IsSound, KeepsOthers, Shows}
use Rattle.archive_text.specs.Entries.{Entry, Has}
use Rattle.record_store.specs.Crashes.{HeldApart, InSegment, Keeps}
use Rattle.record_store.specs.Holdings.{AreEntries, HeldAt}
use Rattle.record_store.specs.Names.{Counts, IsSegment, journal_name}
use Rattle.record_store.specs.Shown.{journal_shown}
use Rattle.record_store.specs.Puts.{KeepsOrSettlesApart, LeavesOldOr}
use Rattle.record_store.specs.Segments.{HoldsNoMore, IsSegmentOf, JournalsSettle, OthersSettle, ShowsNoMore}
use Rattle.record_store.specs.Stores.{AreAmong, IsReady, Sets, Stands}
use Rattle.record_store.specs.declared.store.RecordStore.{RecordStore}
use Rattle.record_store.proofs.Apart.{same_journals, segments_covered, segments_less, within_then}
use Rattle.record_store.proofs.Covering.{CoveredAt, OthersLeaveLess, covered_as_before, covers_keeps, less_covers}
use Rattle.record_store.proofs.Covering.{one_covers}
use Rattle.record_store.proofs.Batches.{one_list}
use Rattle.record_store.proofs.Leavings.{only_is, settled_may, settled_shown, shown_file, shown_left}
use Rattle.record_store.proofs.Named.{not_both}
use Rattle.record_store.proofs.Showing.{same_within}
use Rattle.record_store.proofs.Standing.{ready_as}

-- the draft is on the disk
pub draft_synced : (old new : State) (name : List ℕ) (file : File) → Shows old name file
    → ChangesFile old new name (λ f. if old.lost then f else settled f.shown) → Shows new name (settled file.shown)
draft_synced old new name file shows syncs =
    let some : Some syncs.file ≡ Some file = sym syncs.was ∙ shows.now in
    let same : syncs.file ≡ file = cc some in
    record {
      now = ap (λ (e : DiskEntry). e.now) syncs.entry.here
          ∙ ap (λ (b : Bool). Some (if b then syncs.file else settled syncs.file.shown)) shows.sound
          ∙ ap (λ (f : File). Some (settled f.shown)) same;
      sound = syncs.entry.lost ∙ shows.sound;
    }

-- or that fails
pub draft_unsynced : (old new : State) (name other text : List ℕ) (fault : DiskFault)
    → FailsAt old new name fault (Loses old new) → LeavesOldOr old new other text
draft_unsynced old new name other text fault fails octets may =
    inl (subst (λ (e : DiskEntry). NameMayLeave e octets)
    (⊎_elim (λ same. same.entries other) (λ loses. loses.entries other) fails.done) may)

pub shows_of : (state : State) (name text : List ℕ) → shown_now (state.entries name) ≡ Some text → IsSound state
    → (file : File) × Shows state name file × (file.shown ≡ text)
shows_of state name text shown sound =
    let file = shown_file (state.entries name).now text shown in
    (file.0, record { now = file.1; sound = sound }, file.2)

-- ---- what it holds

module _ (name day text : List ℕ) (es : List Entry) (segment : IsSegment day name) (is : IsSegmentOf day text es) where
  pub segment_has : (e : Entry) → Has es e → HeldAt name (Some text) e
  segment_has e has = inr (
    day,
    segment,
    record {
      entries = es;
      archive = is.archive;
      text_is = is.text_is;
      days = is.days;
      has = has;
    },
  )

  pub segment_no_more : (e : Entry) → HeldAt name (Some text) e → Has es e
  segment_no_more e (inl journal) = absurd (not_both day name journal.0 segment)
  segment_no_more e (inr (other_day, other, has)) =
      subst (λ (l : List Entry). Has l e)
      (one_list has.entries es text
      (record { entries = has.archive.entries; fits = has.archive.fits; text_is = has.text_is })
      (record { entries = is.archive.entries; fits = is.archive.fits; text_is = is.text_is })) has.has

  pub segment_held : (new : State) → IsOnDisk new name text → HeldApart new es
  segment_held new on_disk e has = record {
    day = day;
    name = name;
    segment = segment;
    holds = λ octets may. subst (λ (o : Option (List ℕ)). HeldAt name o e)
        (sym (only_is text octets (subst (λ (x : DiskEntry). NameMayLeave x octets) on_disk.entry may)))
        (segment_has e has);
  }

-- what is held whatever a crash leaves is so of what is shown
pub shows_no_more : (state : State) (name : List ℕ) (es : List Entry) → HoldsNoMore state name es
    → ShowsNoMore state name es
shows_no_more state name es no_more e held =
    no_more (shown_now (state.entries name)) (shown_left (state.entries name)) e held

module _ (old new : State) (draft name day text : List ℕ) (es : List Entry) (segment : IsSegment day name)
    (is : IsSegmentOf day text es) (no_more : ShowsNoMore old name es) (apart : ¬ (Counts draft))
    (leaves : LeavesOldOr old new name text) (others : KeepsOrSettlesApart old new draft name) where
  pub others_less : OthersLeaveLess old new name
  others_less other counts differs octets may =
      settled_may (old.entries other) (new.entries other) octets
      (others other (λ same. apart (subst Counts same counts)) differs) may

  pub segment_at : (octets : Option (List ℕ)) → NameMayLeave (new.entries name) octets
      → CoveredAt old name octets (λ e. Has es e)
  segment_at octets may = ⊎_elim
      (λ before. covered_as_before old name octets (λ e. Has es e) before)
      (λ (whole : octets ≡ Some text). record {
        was = shown_now (old.entries name);
        may = shown_left (old.entries name);
        holds = record {
          kept = λ e held. subst (λ (o : Option (List ℕ)). HeldAt name o e) (sym whole)
              (segment_has name day text es segment is e (no_more e held));
          only = λ e held. inr (segment_no_more name day text es segment is e
              (subst (λ (o : Option (List ℕ)). HeldAt name o e) whole held));
        };
      })
      (leaves octets may)

  segment_counts : Counts name
  segment_counts = inr (day, segment)

  pub segment_keeps : (committed received : List Entry) → AreAmong es received → Keeps old committed received
      → Keeps new committed received
  segment_keeps committed received among keeps =
      covers_keeps old new (λ e. Has es e)
      (one_covers old new name (λ e. Has es e) segment_counts others_less segment_at) committed received among keeps

-- a name that does not count is that of no segment
pub name_apart : (draft day name : List ℕ) → IsSegment day name → ¬ (Counts draft) → name ≢ draft
name_apart draft day name segment apart is = apart (inr (day, subst (IsSegment day) is segment))

-- ---- a store stands on beside a segment

one_by_one : (old new : State) → ((es : List Entry) → HeldApart old es → HeldApart new es) → (e : Entry)
    → InSegment old e → InSegment new e
one_by_one old new still e held =
    still (e ∷ []) (λ x has. ⊎_elim (λ is. subst (InSegment old) is held) (λ none. absurd none) has) e (inl refl)

journal_counts : (n : ℕ) → n < 2 ^ 64 → Counts (journal_name n)
journal_counts n small = inl (record { number = n; small = small; name_is = refl })

module _ (old new : State) (store after : RecordStore) (sets : Sets) (stands : Stands store old sets)
    (settles : JournalsSettle old new) (still : (es : List Entry) → HeldApart old es → HeldApart new es)
    (keeps : Keeps new sets.committed sets.received) (same_batch : after.batch.items ≡ store.batch.items)
    (same_journal : after.journal ≡ store.journal) (same_number : after.number ≡ store.number) where
  beside_shows : (n : ℕ) → n < 2 ^ 64 → journal_shown new n ≡ journal_shown old n
  beside_shows n small =
      settled_shown (old.entries (journal_name n)) (new.entries (journal_name n)) (settles n small)

  beside_ready : new.lost ≡ false → IsReady store old sets.since → IsReady store new sets.since
  beside_ready sound ready = record {
    small = ready.small;
    named = ready.named;
    bodies = ready.bodies;
    stands = record {
      gate = ready.stands.gate;
      closed = ready.stands.closed;
      entry =
          let was = ap old.entries (sym ready.named) ∙ ready.stands.entry in
          ap new.entries ready.named
          ∙ ⊎_elim (λ same. same ∙ was) (λ on_disk. on_disk ∙ ap kept was) (settles store.number ready.small);
      sound = sound;
      end = ready.stands.end;
      sized = ready.stands.sized;
    };
    has = ready.has;
    newest = λ n later small.
        let was = ready.newest n later small in
        ⊎_elim (λ same. same ∙ was) (λ on_disk. on_disk ∙ ap kept was) (settles n small);
  }

  pub beside_stands : (after.broken ≡ false → (store.broken ≡ false) × (new.lost ≡ false))
      → (new.lost ≡ false → old.lost ≡ false) → Stands after new sets
  beside_stands whole sound = record {
    keeps = keeps;
    batch = subst (AreEntries sets.waiting) (sym same_batch) stands.batch;
    waits = stands.waits;
    within = stands.within;
    ready = λ not_broken.
        let before = whole not_broken in
        ready_as store after new sets.since same_journal same_number
        (beside_ready before.1 (stands.ready before.0));
    shows = λ now. same_within old new sets.since beside_shows (stands.shows (sound now));
    older = λ now. within_then old new sets.since (same_journals old new beside_shows) (one_by_one old new still)
        (stands.older (sound now));
  }

-- only the draft's file changes
pub aside_stands : (old new : State) (draft : List ℕ) → KeepsOthers old new draft → ¬ (Counts draft)
    → new.lost ≡ old.lost → (store : RecordStore) (sets : Sets) → Stands store old sets → Stands store new sets
aside_stands old new draft others apart lost store sets stands =
    beside_stands old new store store sets stands
    (λ n small. inl (others (journal_name n) (λ is. apart (subst Counts is (journal_counts n small)))))
    (λ es held e has. segments_less old new (λ day name segment octets may.
    subst (λ (x : DiskEntry). NameMayLeave x octets)
    (others name (λ is. apart (subst Counts is (inr (day, segment))))) may) e (held e has))
    (covers_keeps old new (λ e. ⊥)
    (less_covers old new (λ e. ⊥)
    (λ name counts octets may. subst (λ (e : DiskEntry). NameMayLeave e octets)
    (others name (λ is. apart (subst Counts is counts))) may))
    sets.committed sets.received (λ e none. absurd none) stands.keeps)
    refl refl refl
    (λ whole. (whole, lost ∙ (stands.ready whole).stands.sound))
    (λ sound. sym lost ∙ sound)

pub others_journals : (old new : State) (draft : List ℕ) → ¬ (Counts draft) → OthersSettle old new draft
    → JournalsSettle old new
others_journals old new draft apart others n small =
    others (journal_name n) (λ same. apart (subst Counts same (journal_counts n small)))
    (λ day segment. not_both day (journal_name n) (record { number = n; small = small; name_is = refl }) segment)

pub journals_settle : (old new : State) (draft name day : List ℕ) → IsSegment day name → ¬ (Counts draft)
    → KeepsOrSettlesApart old new draft name → JournalsSettle old new
journals_settle old new draft name day segment apart others n small =
    others (journal_name n) (λ same. apart (subst Counts same (journal_counts n small)))
    (λ same. not_both day name (record { number = n; small = small; name_is = sym same }) segment)

-- a segment gets its name
module _ (old new : State) (draft name day text : List ℕ) (es : List Entry) (segment : IsSegment day name)
    (is : IsSegmentOf day text es) (no_more : ShowsNoMore old name es) (apart : ¬ (Counts draft))
    (leaves : LeavesOldOr old new name text) (others : KeepsOrSettlesApart old new draft name) where
  pub segment_still : (held : List Entry) → HeldApart old held → HeldApart new held
  segment_still held holds =
      segments_covered old new name (λ e. Has es e)
      (others_less old new draft name day text es segment is no_more apart leaves others)
      (segment_at old new draft name day text es segment is no_more apart leaves others) held holds
