-- An empty journal is made.
use Rattle.std.proofs.Common.{◌≡◌, ◌≢◌, inl, ⊎_elim, ℕ, ◌<◌, ◌^◌, List, [], refl, sym, ap, subst, ◌∙◌, arith}
use Rattle.std.specs.Prelude.{Option, None, Some, IsSomeAnd}
use Rattle.disk.specs.Files.{File}
use Rattle.disk.specs.Memory.{shown_now}
use Rattle.disk.specs.States.{MayBe, NameMayLeave, State}
use Rattle.journal.specs.Batches.{HasBatches}
use Rattle.journal.specs.Journals.{KeepsOrSettlesOthers, LeavesNoBatch, SettlesOthers, ShowsNoBatch}
use Rattle.journal.specs.Journals.{Stands as JournalStands}
use Rattle.archive_text.specs.Entries.{Entry}
use Rattle.record_store.specs.Crashes.{Keeps}
use Rattle.record_store.specs.Holdings.{AreEntries}
use Rattle.record_store.specs.Names.{IsJournal, journal_name}
use Rattle.record_store.specs.Shown.{JournalsWithin, NoneShownAbove, ShowsNoJournal, ShowsWithin}
use Rattle.record_store.specs.Shown.{journal_shown}
use Rattle.record_store.specs.Stores.{AreAmong, IsReady, Stands, begun}
use Rattle.record_store.specs.declared.store.RecordStore.{RecordStore}
use Rattle.record_store.proofs.Apart.{begun_journals, newest_journals, segments_beside, within_then}
use Rattle.record_store.proofs.Batches.{journal_holds, none_wait}
use Rattle.record_store.proofs.Covering.{CoveredAt, Covers, covered_as_before, covers_keeps, one_covers, others_settled}
use Rattle.record_store.proofs.Folders.{HoldsAt, nothing}
use Rattle.record_store.proofs.Leavings.{none_kept, none_shown, settled_shown}
use Rattle.record_store.proofs.Named.{numbers_apart, other_number}
use Rattle.record_store.proofs.Showing.{begun_within, ready_newest, ready_shows}

module _ (old new : State) (number : ℕ) (name : List ℕ) (small : number < 2 ^ 64) (named : name ≡ journal_name number)
    (none : journal_shown old number ≡ None) (others : KeepsOrSettlesOthers old new name) where
  pub begun_is_journal : IsJournal name
  begun_is_journal = record { number = number; small = small; name_is = named }

  no_file : (old.entries name).now ≡ None
  no_file = none_shown (old.entries name) (ap (λ (n : List ℕ). shown_now (old.entries n)) named ∙ none)

  holds_none : (octets : Option (List ℕ)) → IsSomeAnd octets (λ file. HasBatches file [])
      → HoldsAt name None octets nothing
  holds_none None empty = absurd empty
  holds_none (Some file) empty = record {
    kept = λ e held. absurd held;
    only = λ e held. absurd (journal_holds name file [] e begun_is_journal empty held);
  }

  pub create_at : LeavesNoBatch old new name → (octets : Option (List ℕ)) → NameMayLeave (new.entries name) octets
      → CoveredAt old name octets nothing
  create_at leaves octets may = ⊎_elim
      (λ before. covered_as_before old name octets nothing before)
      (λ empty. record {
        was = None;
        may = inl (subst (λ (f : Option File). MayBe f None) (sym no_file) refl);
        holds = holds_none octets empty;
      })
      (leaves octets may)

  pub create_covers : LeavesNoBatch old new name → Covers old new nothing
  create_covers leaves =
      one_covers old new name nothing (inl begun_is_journal) (others_settled old new name others) (create_at leaves)

  pub create_keeps : LeavesNoBatch old new name → (committed received : List Entry) → Keeps old committed received
      → Keeps new committed received
  create_keeps leaves committed received keeps =
      covers_keeps old new nothing (create_covers leaves) committed received (λ e none_given. absurd none_given) keeps

  pub create_within : (since : List Entry) → ShowsNoBatch new name → ShowsWithin old since → ShowsWithin new since
  create_within since no_batch within =
      begun_within old new number since small none
      (subst (λ (n : List ℕ). ShowsNoBatch new n) named no_batch)
      (λ other apart. settled_shown (old.entries other) (new.entries other)
      (others other (λ is. apart (is ∙ named))))
      within

  -- it is ready for entries
  pub create_ready : (store : RecordStore) (since : List Entry) → NoneShownAbove old number → store.number ≡ number
      → store.journal.name ≡ name → SettlesOthers old new name → JournalStands store.journal new []
      → IsReady store new since
  create_ready store since above number_is name_is settles journal = record {
    small = subst (λ (n : ℕ). n < 2 ^ 64) (sym number_is) small;
    named = name_is ∙ named ∙ ap journal_name (sym number_is);
    bodies = [];
    stands = journal;
    has = λ e has. absurd has;
    newest = λ n later n_small.
        let over : number < n = subst (λ (k : ℕ). k < n) number_is later in
        settles (journal_name n) (numbers_apart number n small over n_small name named)
        ∙ none_kept (old.entries (journal_name n)) (above n over n_small);
  }

  -- what is shown in the others is as it was
  others_shown : (n : ℕ) → n < 2 ^ 64 → n ≢ number → journal_shown new n ≡ journal_shown old n
  others_shown n n_small apart =
      settled_shown (old.entries (journal_name n)) (new.entries (journal_name n))
      (others (journal_name n) (λ is. apart (other_number n number n_small small (is ∙ named))))

  pub create_older : (since : List Entry) → ShowsNoBatch new name → JournalsWithin old since → JournalsWithin new since
  create_older since no_batch within =
      within_then old new since
      (begun_journals old new number small (subst (λ (n : List ℕ). ShowsNoBatch new n) named no_batch)
      (λ other apart. settled_shown (old.entries other) (new.entries other)
      (others other (λ is. apart (is ∙ named)))))
      (segments_beside old new name begun_is_journal others) within

  pub create_stands : (store : RecordStore) (committed received since : List Entry) → LeavesNoBatch old new name
      → Keeps old committed received → AreAmong since received → JournalsWithin old since → NoneShownAbove old number
      → store.number ≡ number
      → store.batch.items ≡ [] → store.journal.name ≡ name → SettlesOthers old new name
      → JournalStands store.journal new [] → Stands store new (begun committed received since)
  create_stands store committed received since leaves keeps among older above number_is empty name_is settles journal =
      let ready = create_ready store since above number_is name_is settles journal in
      let shows = ready_shows store new since ready in
      let none = subst (NoneShownAbove new) number_is (ready_newest store new since ready).none_above in
      record {
        keeps = create_keeps leaves committed received keeps;
        batch = subst (AreEntries []) (sym empty) none_wait;
        waits = λ e has. absurd has;
        within = among;
        ready = λ whole. ready;
        shows = λ sound. shows;
        older = λ sound. newest_journals old new number since none others_shown
            (segments_beside old new name begun_is_journal others) shows older;
      }

-- ---- a folder that shows no journal

pub none_named : (state : State) (name : List ℕ) → name ≡ journal_name 1 → ShowsNoJournal state
    → shown_now (state.entries name) ≡ None
none_named state name named none =
    ap (λ (n : List ℕ). shown_now (state.entries n)) named ∙ none 1 (omega arith)

pub none_within : (state : State) → ShowsNoJournal state → (since : List Entry) → ShowsWithin state since
none_within state none since number octets newest e has =
    let gone : journal_shown state number ≡ None = none number newest.small in absurd (cc (gone, newest.shown))
