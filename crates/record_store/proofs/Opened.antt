-- A journal that a read shows is brought to the disk and opened.
use Rattle.std.proofs.Common.{◌≡◌, ◌⊎◌, inl, inr, ⊎_elim, ℕ, ◌<◌, ◌^◌, List, [], ◌∷◌, ◌++◌, refl, sym, ap, subst, ◌∙◌}
use Rattle.std.specs.Prelude.{Option, None, Some, IsSomeAnd}
use Rattle.disk.specs.Files.{File}
use Rattle.disk.specs.Memory.{shown_now}
use Rattle.disk.specs.States.{Entry as DiskEntry, NameMayLeave, State}
use Rattle.journal.specs.Batches.{HasBatches, batches_text}
use Rattle.journal.proofs.Readings.{one_reading}
use Rattle.journal.specs.declared.journal.Journal.{Journal}
use Rattle.journal.specs.Journals.{IsOnDisk, IsSound, KeepsOrSettlesOthers, KeepsOthers, LeavesThese, OpensOn}
use Rattle.journal.specs.Journals.{SettlesOthers, Shows, ShowsTheSame}
use Rattle.archive_text.specs.Entries.{Entry, Has}
use Rattle.record_store.specs.Crashes.{Keeps}
use Rattle.record_store.specs.Holdings.{BatchesHave, HeldAt, AreEntries, JournalHas}
use Rattle.record_store.specs.Names.{IsJournal, journal_name}
use Rattle.record_store.specs.Shown.{GivesNewest, GivesShown, IsNewestShown, ShowsTheBatches}
use Rattle.record_store.specs.Shown.{JournalsHave, JournalsWithin, ShowsWithin, journal_shown}
use Rattle.record_store.specs.Stores.{AreAmong, IsReady, Stands, begun}
use Rattle.record_store.specs.declared.store.RecordStore.{RecordStore}
use Rattle.record_store.proofs.Apart.{batches_journals, segments_beside, within_then}
use Rattle.record_store.proofs.Batches.{held_in_journal, journal_holds, none_wait, nothing_has, text_has}
use Rattle.record_store.proofs.Covering.{Covers, covered_as_before, covers_keeps, one_covers, others_same}
use Rattle.record_store.proofs.Covering.{others_settled}
use Rattle.record_store.proofs.Folders.{HoldsAt, nothing}
use Rattle.record_store.proofs.Leavings.{left_shown, none_kept, resting_may, shown_file, shown_left}
use Rattle.record_store.proofs.Named.{numbers_apart}
use Rattle.record_store.proofs.Readings.{some_batches}
use Rattle.record_store.proofs.Showing.{ready_shows, text_given}

-- ---- what is shown is brought to the disk

-- what may be left is what is shown, or what might have been left before
abbrev pub LeavesShown : State → State → List ℕ → Type 0
LeavesShown old new name = (file : File) (octets : Option (List ℕ)) → Shows old name file
    → NameMayLeave (new.entries name) octets → NameMayLeave (old.entries name) octets ⊎ (octets ≡ Some file.shown)

module _ (old new : State) (name octets : List ℕ) (is : IsJournal name) (sound : IsSound old)
    (shown : shown_now (old.entries name) ≡ Some octets) where
  shows_file : Shows old name (shown_file (old.entries name).now octets shown).0
  shows_file = record { now = (shown_file (old.entries name).now octets shown).1; sound = sound }

  settle_covers : KeepsOrSettlesOthers old new name → LeavesShown old new name → Covers old new nothing
  settle_covers others leaves =
      one_covers old new name nothing (inl is) (others_settled old new name others)
      (λ found may. ⊎_elim
      (λ before. covered_as_before old name found nothing before)
      (λ (same : found ≡ Some (shown_file (old.entries name).now octets shown).0.shown).
      covered_as_before old name found nothing
      (subst (NameMayLeave (old.entries name))
      (shown ∙ sym (same ∙ ap (λ (l : List ℕ). Some l) (shown_file (old.entries name).now octets shown).2))
      (shown_left (old.entries name))))
      (leaves (shown_file (old.entries name).now octets shown).0 found shows_file may))

  pub settle_keeps : KeepsOrSettlesOthers old new name → LeavesShown old new name
      → (committed received : List Entry) → Keeps old committed received → Keeps new committed received
  settle_keeps others leaves committed received keeps =
      covers_keeps old new nothing (settle_covers others leaves) committed received (λ e none. absurd none) keeps

pub settled_on_disk : (old new : State) (name octets : List ℕ) → IsSound old
    → shown_now (old.entries name) ≡ Some octets
    → ((file : File) → Shows old name file → IsOnDisk new name file.shown) → IsOnDisk new name octets
settled_on_disk old new name octets sound shown on_disk =
    let file = shown_file (old.entries name).now octets shown in
    subst (IsOnDisk new name) file.2 (on_disk file.0 (record { now = file.1; sound = sound }))

pub settled_shows : (old new : State) (name : List ℕ) → ShowsTheSame old new → ShowsTheBatches old new name
settled_shows old new name same = record {
  others = λ other apart. same other;
  here = λ octets bodies shown has. (octets, same name ∙ shown, has);
}

-- ---- and opened

module _ (old new : State) (name octets : List ℕ) (on_disk : IsOnDisk old name octets)
    (leaves : (file : List ℕ) (bodies : List (List ℕ)) → IsOnDisk old name file → HasBatches file bodies
    → LeavesThese new name bodies) (others : KeepsOthers old new name) where
  open_holds : (is : IsJournal name) (found : Option (List ℕ))
      → IsSomeAnd found (λ f. (bodies : List (List ℕ)) × HasBatches f bodies × (bodies ≡ (some_batches octets).0))
      → HoldsAt name (Some octets) found nothing
  open_holds is None some = absurd some
  open_holds is (Some f) (bodies, has, same) = record {
    kept = λ e held. held_in_journal name f bodies e is has
        (subst (λ (b : List (List ℕ)). BatchesHave b e) (sym same)
        (journal_holds name octets (some_batches octets).0 e is (some_batches octets).1 held));
    only = λ e held. inl (held_in_journal name octets (some_batches octets).0 e is (some_batches octets).1
        (subst (λ (b : List (List ℕ)). BatchesHave b e) same (journal_holds name f bodies e is has held)));
  }

  open_covers : IsJournal name → Covers old new nothing
  open_covers is =
      one_covers old new name nothing (inl is) (others_same old new name others)
      (λ found may. record {
        was = Some octets;
        may = subst (λ (e : DiskEntry). NameMayLeave e (Some octets)) (sym on_disk.entry) (resting_may (Some octets));
        holds = open_holds is found (leaves octets (some_batches octets).0 on_disk (some_batches octets).1 found may);
      })

  pub open_keeps : IsJournal name → (committed received : List Entry) → Keeps old committed received
      → Keeps new committed received
  open_keeps is committed received keeps =
      covers_keeps old new nothing (open_covers is) committed received (λ e none. absurd none) keeps

  pub open_shows : (zero : State) → ShowsTheSame zero old → ShowsTheBatches zero new name
  open_shows zero same = record {
    others = λ other apart. ap shown_now (others other apart) ∙ same other;
    here = λ file bodies shown has.
        let is : Some file ≡ Some octets = sym shown ∙ sym (same name) ∙ ap shown_now on_disk.entry in
        let one : file ≡ octets = cc is in
        let left = left_shown (new.entries name)
        (λ f. (found : List (List ℕ)) × HasBatches f found × (found ≡ bodies))
        (leaves octets bodies on_disk (subst (λ (l : List ℕ). HasBatches l bodies) one has)) in
        (left.0, left.1, subst (HasBatches left.0) left.2.2 left.2.1);
  }

-- it is cut behind its batches
pub cut_shown : (new : State) (number : ℕ) (name octets : List ℕ) (bodies : List (List ℕ)) → HasBatches octets bodies
    → (r : Journal × List ℕ) → OpensOn r.0 new octets r.1 → name ≡ journal_name number → r.0.name ≡ name
    → (gate : ℕ) × (journal_shown new number ≡ Some (batches_text bodies ++ gate ∷ []))
cut_shown new number name octets bodies has r opens named same = (
  opens.stands.gate,
  ap (λ (n : List ℕ). shown_now (new.entries n)) (sym named ∙ sym same) ∙ ap shown_now opens.stands.entry
      ∙ ap (λ (l : List (List ℕ)). Some (batches_text l ++ opens.stands.gate ∷ []))
      (one_reading octets opens.bodies bodies opens.has has),
)

-- ---- the store of the newest journal

module _ (old new : State) (number : ℕ) (octets : List ℕ) (newest : IsNewestShown old number octets) (name : List ℕ)
    (named : name ≡ journal_name number) where
  pub newest_is_journal : IsJournal name
  newest_is_journal = record { number = number; small = newest.small; name_is = named }

  pub newest_shown : shown_now (old.entries name) ≡ Some octets
  newest_shown = ap (λ (n : List ℕ). shown_now (old.entries n)) named ∙ newest.shown

  pub opened_older : (since : List Entry) → KeepsOrSettlesOthers old new name → ShowsTheBatches old new name
      → JournalsWithin old since → JournalsWithin new since
  opened_older since others same =
      within_then old new since
      (batches_journals old new number octets newest.small newest.shown
      (subst (λ (n : List ℕ). ShowsTheBatches old new n) named same))
      (segments_beside old new name newest_is_journal others)

  pub opened_stands : (store : RecordStore) (committed received since : List Entry) (text : List ℕ)
      → Keeps new committed received → AreAmong since received → JournalsWithin new since → store.number ≡ number → store.journal.name ≡ name
      → store.batch.items ≡ [] → SettlesOthers old new name → OpensOn store.journal new octets text
      → ((e : Entry) → JournalHas text e → Has since e) → Stands store new (begun committed received since)
  opened_stands store committed received since text keeps among older number_is same empty settles opens are =
      let ready : IsReady store new since = record {
        small = subst (λ (n : ℕ). n < 2 ^ 64) (sym number_is) newest.small;
        named = same ∙ named ∙ ap journal_name (sym number_is);
        bodies = opens.bodies;
        stands = opens.stands;
        has = λ e has. are e (record {
          bodies = opens.bodies;
          batches = text_has text opens.bodies opens.text_is opens.has.sized;
          has = has;
        });
        newest = λ n later small.
            let above : number < n = subst (λ (k : ℕ). k < n) number_is later in
            settles (journal_name n) (numbers_apart number n newest.small above small name named)
            ∙ none_kept (old.entries (journal_name n)) (newest.none_above n above small);
      } in
      record {
        keeps = keeps;
        batch = subst (AreEntries []) (sym empty) none_wait;
        waits = λ e has. absurd has;
        within = among;
        ready = λ whole. ready;
        shows = λ sound. ready_shows store new since ready;
        older = λ sound. older;
      }

  pub opened_gives : (journal : Journal) (text : List ℕ) → OpensOn journal new octets text
      → GivesShown old number text
  opened_gives journal text opens = record {
    octets = octets;
    newest = newest;
    bodies = opens.bodies;
    has = opens.has;
    text_is = opens.text_is;
  }

-- ---- what is given

pub given_received : (state : State) (number : ℕ) (text : List ℕ) (committed received : List Entry) (e : Entry)
    → Keeps state committed received → GivesNewest state number text → JournalHas text e → Has received e
given_received state number text committed received e keeps (inl gives) has =
    keeps.nothing_forged (λ name. shown_now (state.entries name)) (λ name counts. shown_left (state.entries name)) e
    (record {
      name = journal_name number;
      at = subst (λ (o : Option (List ℕ)). HeldAt (journal_name number) o e) (sym gives.newest.shown)
          (inl (
            record { number = number; small = gives.newest.small; name_is = refl },
            text_given state number text e gives has,
          ));
    })
given_received state number text committed received e keeps (inr none) has = absurd (nothing_has text e none.2 has)

pub given_within : (state : State) (number : ℕ) (text : List ℕ) (since : List Entry) (e : Entry)
    → ShowsWithin state since → GivesNewest state number text → JournalHas text e → Has since e
given_within state number text since e within (inl gives) has =
    within number gives.octets gives.newest e (text_given state number text e gives has)
given_within state number text since e within (inr none) has = absurd (nothing_has text e none.2 has)

-- ---- what all journals have

pub journals_received : (state : State) (committed received : List Entry) (e : Entry) → Keeps state committed received
    → JournalsHave state e → Has received e
journals_received state committed received e keeps has =
    keeps.nothing_forged (λ name. shown_now (state.entries name)) (λ name counts. shown_left (state.entries name)) e
    (record {
      name = journal_name has.number;
      at = subst (λ (o : Option (List ℕ)). HeldAt (journal_name has.number) o e) (sym has.shown)
          (inl (record { number = has.number; small = has.small; name_is = refl }, has.has));
    })

pub given_journals : (state : State) (number : ℕ) (text : List ℕ) (e : Entry) → GivesNewest state number text
    → JournalHas text e → JournalsHave state e
given_journals state number text e (inl gives) has = record {
  number = number;
  octets = gives.octets;
  small = gives.newest.small;
  shown = gives.newest.shown;
  has = text_given state number text e gives has;
}
given_journals state number text e (inr none) has = absurd (nothing_has text e none.2 has)
