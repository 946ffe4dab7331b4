-- A store from call to call.
use Rattle.std.proofs.Common.{◌≡◌, inl, ⊎_elim, ℕ, ◌<◌, ◌≤◌, ◌^◌, List, [], ◌∷◌, ◌++◌, length, refl, sym, ap, subst, ◌∙◌, arith}
use Rattle.std.specs.Prelude.{None, true}
use Rattle.disk.specs.Memory.{shown_now}
use Rattle.disk.specs.States.{State}
use Rattle.journal.specs.declared.journal.Journal.{Journal}
use Rattle.journal.specs.Journals.{KeepsOthers, LeavesBatches, Stands as JournalStands, WithOrWithout}
use Rattle.archive_text.specs.Entries.{Entry, Has, IsEntry}
use Rattle.archive_text.specs.Text.{entry_text}
use Rattle.archive_text.specs.declared.limits.TheConstants.{ENTRY_MAX}
use Rattle.archive_text.proofs.Members.{has_either, has_left, has_right}
use Rattle.record_store.specs.Crashes.{Keeps, resting}
use Rattle.record_store.specs.Holdings.{AreEntries, IsBatch}
use Rattle.record_store.specs.Names.{IsJournal, journal_name}
use Rattle.record_store.specs.Seals.{seal_of}
use Rattle.record_store.specs.Shown.{JournalsWithin, NoneShownAbove, ShowsWithin}
use Rattle.record_store.specs.Stores.{AreAmong, IsReady, Sets, Stands, all_committed, with_waiting}
use Rattle.record_store.specs.declared.store.RecordStore.{RecordStore}
use Rattle.record_store.proofs.Apart.{more_journals, newest_journals, segments_beside}
use Rattle.record_store.proofs.Batches.{batch_has, none_wait, none_waits, pushed_either, waiting_push}
use Rattle.record_store.proofs.Committing.{commit_keeps, commit_within, committed_keeps}
use Rattle.record_store.proofs.Named.{numbers_apart, other_number}
use Rattle.record_store.proofs.Sealed.{sealed_batch}
use Rattle.record_store.proofs.Showing.{ready_shows}

pub ready_named : (store : RecordStore) (state : State) (since : List Entry) → IsReady store state since
    → IsJournal store.journal.name
ready_named store state since ready =
    record { number = store.number; small = ready.small; name_is = ready.named }

-- of another store with the same journal
pub ready_as : (store after : RecordStore) (state : State) (since : List Entry) → after.journal ≡ store.journal
    → after.number ≡ store.number → IsReady store state since → IsReady after state since
ready_as store after state since same_journal same_number ready = record {
  small = subst (λ (n : ℕ). n < 2 ^ 64) (sym same_number) ready.small;
  named = ap (λ (j : Journal). j.name) same_journal ∙ ready.named ∙ ap journal_name (sym same_number);
  bodies = ready.bodies;
  stands = subst (λ (j : Journal). JournalStands j state ready.bodies) (sym same_journal) ready.stands;
  has = ready.has;
  newest = λ n later small. ready.newest n (subst (λ (k : ℕ). k < n) same_number later) small;
}

-- ---- a commit

module _ (old new : State) (store after : RecordStore) (sets : Sets) (stands : Stands store old sets)
    (ready : IsReady store old sets.since) (keeps : KeepsOthers old new store.journal.name) where
  abbrev body : List ℕ
  body = store.batch.items ++ seal_of store.batch.items

  sealed : IsBatch sets.waiting body
  sealed = sealed_batch sets.waiting store.batch.items stands.batch

  was_received : AreAmong sets.waiting sets.received
  was_received e has = stands.within e (stands.waits e has)

  later : (n : ℕ) → store.number < n → n < 2 ^ 64 → new.entries (journal_name n) ≡ resting None
  later n above small =
      keeps (journal_name n) (numbers_apart store.number n ready.small above small store.journal.name ready.named)
      ∙ ready.newest n above small

  none_later : NoneShownAbove new store.number
  none_later n above small = ap shown_now (later n above small)

  -- what the older journals have
  commit_older : ShowsWithin new sets.since → JournalsWithin new sets.since
  commit_older newest =
      newest_journals old new store.number sets.since none_later
      (λ n small apart. ap shown_now (keeps (journal_name n)
      (λ is. apart (other_number n store.number small ready.small (is ∙ ready.named)))))
      (segments_beside old new store.journal.name (ready_named store old sets.since ready)
      (λ other apart. inl (keeps other apart)))
      newest (stands.older ready.stands.sound)

  module _ (leaves : LeavesBatches new store.journal.name (WithOrWithout ready.bodies body)) where
    pub commit_any : Keeps new sets.committed sets.received
    commit_any =
        commit_keeps old store.journal ready.bodies (ready_named store old sets.since ready) ready.stands new body keeps
        leaves sets.committed sets.received sets.waiting stands.keeps sealed was_received

    commit_shows : ShowsWithin new sets.since
    commit_shows =
        commit_within old store.journal ready.bodies (ready_named store old sets.since ready) ready.stands new body
        keeps leaves store.number sets.waiting sets.since ready.small ready.named none_later sealed stands.waits
        ready.has

    -- it has failed
    pub commit_err : after.batch.items ≡ store.batch.items → after.broken ≡ true → Stands after new sets
    commit_err same broken = record {
      keeps = commit_any;
      batch = subst (AreEntries sets.waiting) (sym same) stands.batch;
      waits = stands.waits;
      within = stands.within;
      ready = λ not_broken. absurd (cc (broken, not_broken));
      shows = λ sound. commit_shows;
      older = λ sound. commit_older commit_shows;
    }

    commit_ready : after.number ≡ store.number → after.journal.name ≡ store.journal.name
        → JournalStands after.journal new (ready.bodies ++ body ∷ []) → IsReady after new sets.since
    commit_ready number name journal = record {
      small = subst (λ (n : ℕ). n < 2 ^ 64) (sym number) ready.small;
      named = name ∙ ready.named ∙ ap journal_name (sym number);
      bodies = ready.bodies ++ body ∷ [];
      stands = journal;
      has = λ e has. ⊎_elim
          (λ before. ready.has e before)
          (λ last. stands.waits e (batch_has sets.waiting body e sealed last))
          (pushed_either ready.bodies body e has);
      newest = λ n above small. later n (subst (λ (k : ℕ). k < n) number above) small;
    }

    pub commit_ok : after.batch.items ≡ [] → after.number ≡ store.number → after.journal.name ≡ store.journal.name
        → JournalStands after.journal new (ready.bodies ++ body ∷ []) → Stands after new (all_committed sets)
    commit_ok none number name journal =
        let ready_then = commit_ready number name journal in
        record {
          keeps = committed_keeps old store.journal ready.bodies (ready_named store old sets.since ready) ready.stands new
              body keeps leaves after.journal name journal sets.committed sets.received sets.waiting stands.keeps
              sealed was_received;
          batch = subst (AreEntries []) (sym none) none_wait;
          waits = λ e has. absurd has;
          within = stands.within;
          ready = λ not_broken. ready_then;
          shows = λ sound. ready_shows after new sets.since ready_then;
          older = λ sound. commit_older (ready_shows after new sets.since ready_then);
        }

-- it was not begun
pub broken_stands : (store after : RecordStore) (state : State) (sets : Sets) → Stands store state sets
    → after.batch.items ≡ store.batch.items → after.broken ≡ true → Stands after state sets
broken_stands store after state sets stands same broken = record {
  keeps = stands.keeps;
  batch = subst (AreEntries sets.waiting) (sym same) stands.batch;
  waits = stands.waits;
  within = stands.within;
  ready = λ not_broken. absurd (cc (broken, not_broken));
  shows = stands.shows;
  older = stands.older;
}

-- nothing waits
pub no_octets : (octets : List ℕ) → length octets ≡ 0 → octets ≡ []
no_octets [] none = refl
no_octets (x ∷ octets) none = absurd (omega (arith, none))

pub idle_stands : (store : RecordStore) (state : State) (sets : Sets) → Stands store state sets
    → store.batch.items ≡ [] → Stands store state (all_committed sets)
idle_stands store state sets stands empty =
    let none : [] ≡ sets.waiting = none_waits sets.waiting store.batch.items empty stands.batch in
    record {
      keeps = record {
        nothing_lost = λ files may e has. stands.keeps.nothing_lost files may e
            (⊎_elim (λ committed. committed) (λ last. absurd (subst (λ (l : List Entry). Has l e) (sym none) last))
            (has_either sets.committed sets.waiting e has));
        nothing_forged = stands.keeps.nothing_forged;
      };
      batch = subst (λ (l : List Entry). AreEntries l store.batch.items) (sym none) stands.batch;
      waits = λ e has. absurd has;
      within = stands.within;
      ready = stands.ready;
      shows = stands.shows;
      older = stands.older;
    }

-- ---- an entry is appended

has_more : (e : Entry) (es fs : List Entry) → AreAmong es fs → AreAmong (es ++ e ∷ []) (fs ++ e ∷ [])
has_more e es fs within x has = ⊎_elim
    (λ before. has_left fs (e ∷ []) x (within x before))
    (λ last. has_right fs (e ∷ []) x last)
    (has_either es (e ∷ []) x has)

more_received : (state : State) (committed received : List Entry) (e : Entry) → Keeps state committed received
    → Keeps state committed (received ++ e ∷ [])
more_received state committed received e keeps = record {
  nothing_lost = keeps.nothing_lost;
  nothing_forged = λ after may x held. has_left received (e ∷ []) x (keeps.nothing_forged after may x held);
}

module _ (store after : RecordStore) (state : State) (sets : Sets) (stands : Stands store state sets)
    (same_journal : after.journal ≡ store.journal) (same_number : after.number ≡ store.number)
    (same_broken : after.broken ≡ store.broken) where
  ready_moved : (since : List Entry) → AreAmong sets.since since → IsReady store state sets.since
      → IsReady after state since
  ready_moved since among ready = record {
    small = subst (λ (n : ℕ). n < 2 ^ 64) (sym same_number) ready.small;
    named = ap (λ (j : Journal). j.name) same_journal ∙ ready.named ∙ ap journal_name (sym same_number);
    bodies = ready.bodies;
    stands = subst (λ (j : Journal). JournalStands j state ready.bodies) (sym same_journal) ready.stands;
    has = λ e has. among e (ready.has e has);
    newest = λ n later small. ready.newest n (subst (λ (k : ℕ). k < n) same_number later) small;
  }

  -- the batch has what it had
  pub stands_on : after.batch.items ≡ store.batch.items → Stands after state sets
  stands_on same = record {
    keeps = stands.keeps;
    batch = subst (AreEntries sets.waiting) (sym same) stands.batch;
    waits = stands.waits;
    within = stands.within;
    ready = λ not_broken.
        ready_moved sets.since (λ e has. has) (stands.ready (sym same_broken ∙ not_broken));
    shows = stands.shows;
    older = stands.older;
  }

  pub appended_stands : (e : Entry) → IsEntry e → length e.octets ≤ ENTRY_MAX
      → after.batch.items ≡ store.batch.items ++ entry_text e → Stands after state (with_waiting sets e)
  appended_stands e entry fits is = record {
    keeps = more_received state sets.committed sets.received e stands.keeps;
    batch = waiting_push sets.waiting e store.batch.items after.batch.items stands.batch entry fits is;
    waits = has_more e sets.waiting sets.since stands.waits;
    within = has_more e sets.since sets.received stands.within;
    ready = λ not_broken.
        ready_moved (sets.since ++ e ∷ []) (λ x has. has_left sets.since (e ∷ []) x has)
        (stands.ready (sym same_broken ∙ not_broken));
    shows = λ sound number octets newest x has.
        has_left sets.since (e ∷ []) x (stands.shows sound number octets newest x has);
    older = λ sound.
        more_journals state sets.since (sets.since ++ e ∷ []) (λ x has. has_left sets.since (e ∷ []) x has)
        (stands.older sound);
  }
