-- A batch is committed.
use Rattle.std.proofs.Common.{◌≡◌, ◌⊎◌, inl, inr, ⊎_elim, ℕ, ◌<◌, ◌^◌, List, [], ◌∷◌, ◌++◌, sym, ap, subst, ◌∙◌}
use Rattle.std.specs.Prelude.{Option, None, Some, IsSomeAnd}
use Rattle.disk.specs.Files.{settled}
use Rattle.disk.specs.Memory.{shown_now}
use Rattle.disk.specs.States.{Entry as DiskEntry, Files, NameMayLeave, State}
use Rattle.journal.specs.Batches.{HasBatches, batches_text}
use Rattle.journal.specs.Journals.{KeepsOthers, LeavesBatches, Stands as JournalStands, WithOrWithout, only_file}
use Rattle.journal.specs.declared.journal.Journal.{Journal}
use Rattle.journal.proofs.Batches.{before_closed}
use Rattle.archive_text.specs.Entries.{Entry, Has}
use Rattle.archive_text.proofs.Members.{has_either}
use Rattle.record_store.specs.Crashes.{Keeps, MayLeaveCounted}
use Rattle.record_store.specs.Holdings.{BatchHas, BatchesHave, Held, HeldAt, IsBatch}
use Rattle.record_store.specs.Names.{IsJournal, journal_name}
use Rattle.record_store.specs.Shown.{NoneShownAbove, ShowsWithin}
use Rattle.record_store.specs.Stores.{AreAmong}
use Rattle.record_store.proofs.Batches.{batch_has, held_in_journal, journal_has, journal_holds, push_has, pushed_either}
use Rattle.record_store.proofs.Batches.{pushed_has}
use Rattle.record_store.proofs.Covering.{Covers, covers_keeps, one_covers, others_same}
use Rattle.record_store.proofs.Folders.{HoldsAt}
use Rattle.record_store.proofs.Leavings.{left_shown, only_is, resting_may}
use Rattle.record_store.proofs.Showing.{within_of}

module _ (old : State) (journal : Journal) (bodies : List (List ℕ)) (is : IsJournal journal.name)
    (stands : JournalStands journal old bodies) where
  abbrev file : List ℕ
  file = batches_text bodies ++ stands.gate ∷ []

  has : HasBatches (batches_text bodies ++ stands.gate ∷ []) bodies
  has = before_closed bodies stands.gate [] stands.closed stands.sized

  module _ (new : State) (body : List ℕ) (keeps : KeepsOthers old new journal.name)
      (leaves : LeavesBatches new journal.name (WithOrWithout bodies body)) where
    with_or_without : (found : List (List ℕ)) (e : Entry) → WithOrWithout bodies body found → BatchesHave bodies e
        → BatchesHave found e
    with_or_without found e (inl same) has_e = subst (λ (b : List (List ℕ)). BatchesHave b e) (sym same) has_e
    with_or_without found e (inr more) has_e =
        subst (λ (b : List (List ℕ)). BatchesHave b e) (sym more) (pushed_has bodies body e has_e)

    nothing_else : (found : List (List ℕ)) (e : Entry) → WithOrWithout bodies body found → BatchesHave found e
        → BatchesHave bodies e ⊎ BatchHas body e
    nothing_else found e (inl same) has_e = inl (subst (λ (b : List (List ℕ)). BatchesHave b e) same has_e)
    nothing_else found e (inr more) has_e =
        pushed_either bodies body e (subst (λ (b : List (List ℕ)). BatchesHave b e) more has_e)

    holds_at : (octets : Option (List ℕ))
        → IsSomeAnd octets (λ f. (found : List (List ℕ)) × HasBatches f found × WithOrWithout bodies body found)
        → HoldsAt journal.name (Some file) octets (BatchHas body)
    holds_at None some = absurd some
    holds_at (Some f) (found, batches, which) = record {
      kept = λ e held. held_in_journal journal.name f found e is batches
          (with_or_without found e which (journal_holds journal.name file bodies e is has held));
      only = λ e held. ⊎_elim
          (λ before. inl (held_in_journal journal.name file bodies e is has before))
          (λ new_one. inr new_one)
          (nothing_else found e which (journal_holds journal.name f found e is batches held));
    }

    commit_covers : Covers old new (BatchHas body)
    commit_covers =
        one_covers old new journal.name (BatchHas body) (inl is) (others_same old new journal.name keeps)
        (λ octets may. record {
          was = Some file;
          may = subst (λ (e : DiskEntry). NameMayLeave e (Some file)) (sym stands.entry) (resting_may (Some file));
          holds = holds_at octets (leaves octets may);
        })

    pub commit_keeps : (committed received waiting : List Entry) → Keeps old committed received
        → IsBatch waiting body → AreAmong waiting received → Keeps new committed received
    commit_keeps committed received waiting keeps_then batch within =
        covers_keeps old new (BatchHas body) commit_covers committed received
        (λ e has_e. within e (batch_has waiting body e batch has_e)) keeps_then

    -- what a read shows
    pub commit_within : (number : ℕ) (waiting since : List Entry) → number < 2 ^ 64
        → journal.name ≡ journal_name number → NoneShownAbove new number → IsBatch waiting body
        → AreAmong waiting since → ((e : Entry) → BatchesHave bodies e → Has since e) → ShowsWithin new since
    commit_within number waiting since small named above batch waits within =
        let left = left_shown (new.entries journal.name)
        (λ f. (found : List (List ℕ)) × HasBatches f found × WithOrWithout bodies body found) leaves in
        within_of new number left.0 since
        (record {
          small = small;
          shown = ap (λ (n : List ℕ). shown_now (new.entries n)) (sym named) ∙ left.1;
          none_above = above;
        })
        (λ e held. ⊎_elim
        (λ before. within e before)
        (λ last. waits e (batch_has waiting body e batch last))
        (nothing_else left.2.0 e left.2.2 (journal_has left.0 left.2.0 e left.2.1 held)))

    -- the batch is there
    module _ (after_journal : Journal) (same : after_journal.name ≡ journal.name)
        (stands_then : JournalStands after_journal new (bodies ++ body ∷ [])) where
      abbrev file_then : List ℕ
      file_then = batches_text (bodies ++ body ∷ []) ++ stands_then.gate ∷ []

      has_then : HasBatches file_then (bodies ++ body ∷ [])
      has_then = before_closed (bodies ++ body ∷ []) stands_then.gate [] stands_then.closed stands_then.sized

      entry_then : new.entries journal.name ≡ only_file (settled file_then)
      entry_then = ap new.entries (sym same) ∙ stands_then.entry

      left_then : (after : Files) → MayLeaveCounted new after → after journal.name ≡ Some file_then
      left_then after may = only_is file_then (after journal.name)
          (subst (λ (e : DiskEntry). NameMayLeave e (after journal.name)) entry_then (may journal.name (inl is)))

      committed_held : (waiting : List Entry) → IsBatch waiting body → (after : Files) → MayLeaveCounted new after
          → (e : Entry) → Has waiting e → Held after e
      committed_held waiting batch after may e waits = record {
        name = journal.name;
        at = subst (λ (o : Option (List ℕ)). HeldAt journal.name o e) (sym (left_then after may))
            (held_in_journal journal.name file_then (bodies ++ body ∷ []) e is has_then
            (push_has bodies body e (record { entries = waiting; batch = batch; has = waits })));
      }

      pub committed_keeps : (committed received waiting : List Entry) → Keeps old committed received
          → IsBatch waiting body → AreAmong waiting received → Keeps new (committed ++ waiting) received
      committed_keeps committed received waiting keeps_then batch within =
          let before = commit_keeps committed received waiting keeps_then batch within in
          record {
            nothing_lost = λ after may e has_e. ⊎_elim
                (before.nothing_lost after may e)
                (committed_held waiting batch after may e)
                (has_either committed waiting e has_e);
            nothing_forged = before.nothing_forged;
          }
