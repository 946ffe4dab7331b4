-- The newest journal that a read shows.
use Rattle.std.proofs.Common.{◌≡◌, ◌≢◌, ⊎_elim, ℕ, ◌<◌, ◌^◌, List, [], ◌∷◌, ◌++◌, refl, sym, ap, subst, ◌∙◌}
use Rattle.std.specs.Prelude.{None, Some}
use Rattle.std.proofs.lemmas.Bool.{cases_order}
use Rattle.disk.specs.Memory.{shown_now}
use Rattle.disk.specs.Calls.{IsUnchanged}
use Rattle.disk.specs.States.{State}
use Rattle.journal.specs.Batches.{batches_text}
use Rattle.journal.proofs.Batches.{before_closed}
use Rattle.journal.specs.Journals.{ShowsNoBatch}
use Rattle.archive_text.specs.Entries.{Entry, Has}
use Rattle.record_store.specs.Holdings.{JournalHas}
use Rattle.record_store.specs.Names.{journal_name}
use Rattle.record_store.specs.Shown.{GivesShown, IsNewestShown, ShowsTheBatches, ShowsWithin, journal_shown}
use Rattle.record_store.specs.Stores.{IsReady}
use Rattle.record_store.specs.declared.store.RecordStore.{RecordStore}
use Rattle.record_store.proofs.Batches.{journal_has, text_has}
use Rattle.record_store.proofs.Named.{number_same_or_apart, numbers_apart, other_number}
use Rattle.record_store.proofs.Readings.{some_batches}

none_above : (state : State) (m n : ℕ) (a b : List ℕ) → IsNewestShown state m a → IsNewestShown state n b → m < n → ⊥
none_above state m n a b one other below =
    let none : journal_shown state n ≡ None = one.none_above n below other.small in absurd (cc (none, other.shown))

pub newest_one : (state : State) (m n : ℕ) (a b : List ℕ) → IsNewestShown state m a → IsNewestShown state n b → m ≡ n
newest_one state m n a b one other = ⊎_elim (λ is. is)
    (λ either. ⊎_elim
    (λ below. absurd (none_above state m n a b one other below))
    (λ above. absurd (none_above state n m b a other one above))
    either)
    (cases_order m n)

-- what the newest has
pub within_of : (state : State) (number : ℕ) (octets : List ℕ) (since : List Entry)
    → IsNewestShown state number octets → ((e : Entry) → JournalHas octets e → Has since e) → ShowsWithin state since
within_of state number octets since newest has m found other e has_e =
    let is : number ≡ m = newest_one state number m octets found newest other in
    let same : Some octets ≡ Some found = sym newest.shown ∙ ap (journal_shown state) is ∙ other.shown in
    let one : octets ≡ found = cc same in
    has e (subst (λ (o : List ℕ). JournalHas o e) (sym one) has_e)

-- the same is shown
pub newest_on : (old new : State) (number : ℕ) (octets : List ℕ)
    → ((n : ℕ) → n < 2 ^ 64 → journal_shown new n ≡ journal_shown old n) → IsNewestShown old number octets
    → IsNewestShown new number octets
newest_on old new number octets same newest = record {
  small = newest.small;
  shown = same number newest.small ∙ newest.shown;
  none_above = λ n above small. same n small ∙ newest.none_above n above small;
}

pub same_within : (old new : State) (since : List Entry)
    → ((n : ℕ) → n < 2 ^ 64 → journal_shown new n ≡ journal_shown old n) → ShowsWithin old since
    → ShowsWithin new since
same_within old new since same within m octets newest =
    within m octets (newest_on new old m octets (λ n small. sym (same n small)) newest)

pub unchanged_shown : (old new : State) → IsUnchanged old new → (n : ℕ) → n < 2 ^ 64
    → journal_shown new n ≡ journal_shown old n
unchanged_shown old new same n small = ap shown_now (same.entries (journal_name n))

-- the batches are the same
pub batches_within : (old new : State) (number : ℕ) (octets : List ℕ) (since : List Entry)
    → IsNewestShown old number octets → ShowsTheBatches old new (journal_name number) → ShowsWithin old since
    → ShowsWithin new since
batches_within old new number octets since newest same within =
    let some = some_batches octets in
    let found = same.here octets some.0 newest.shown some.1 in
    within_of new number found.0 since
    (record {
      small = newest.small;
      shown = found.1;
      none_above = λ n above small.
          same.others (journal_name n)
          (numbers_apart number n newest.small above small (journal_name number) refl)
          ∙ newest.none_above n above small;
    })
    (λ e has. within number octets newest e
    (record { bodies = some.0; batches = some.1; has = journal_has found.0 some.0 e found.2 has }))

-- one journal more is shown, without batches, or none more
pub begun_within : (old new : State) (number : ℕ) (since : List Entry) → number < 2 ^ 64
    → journal_shown old number ≡ None → ShowsNoBatch new (journal_name number)
    → ((other : List ℕ) → other ≢ journal_name number
    → shown_now (new.entries other) ≡ shown_now (old.entries other))
    → ShowsWithin old since → ShowsWithin new since
begun_within old new number since small none no_batch others within m octets newest e has = ⊎_elim
    (λ (is : m ≡ number).
    let shown : journal_shown new number ≡ Some octets = ap (journal_shown new) (sym is) ∙ newest.shown in
    absurd (journal_has octets [] e (no_batch octets shown) has))
    (λ (apart : m ≢ number). within m octets
    (record {
      small = newest.small;
      shown = sym (stays m newest.small apart) ∙ newest.shown;
      none_above = λ n above n_small. ⊎_elim
          (λ (is : n ≡ number). ap (journal_shown old) is ∙ none)
          (λ (other : n ≢ number). sym (stays n n_small other) ∙ newest.none_above n above n_small)
          (number_same_or_apart n number);
    })
    e has)
    (number_same_or_apart m number)
  where
    stays : (n : ℕ) → n < 2 ^ 64 → n ≢ number → journal_shown new n ≡ journal_shown old n
    stays n n_small apart =
        others (journal_name n) (λ is. apart (other_number n number n_small small is))

-- ---- the journal of a store that is ready

pub ready_newest : (store : RecordStore) (state : State) (since : List Entry) (ready : IsReady store state since)
    → IsNewestShown state store.number (batches_text ready.bodies ++ ready.stands.gate ∷ [])
ready_newest store state since ready = record {
  small = ready.small;
  shown = ap (λ (n : List ℕ). shown_now (state.entries n)) (sym ready.named) ∙ ap shown_now ready.stands.entry;
  none_above = λ n above small. ap shown_now (ready.newest n above small);
}

pub ready_shows : (store : RecordStore) (state : State) (since : List Entry) → IsReady store state since
    → ShowsWithin state since
ready_shows store state since ready =
    within_of state store.number (batches_text ready.bodies ++ ready.stands.gate ∷ []) since
    (ready_newest store state since ready)
    (λ e has. ready.has e (journal_has (batches_text ready.bodies ++ ready.stands.gate ∷ []) ready.bodies e
    (before_closed ready.bodies ready.stands.gate [] ready.stands.closed ready.stands.sized) has))

-- ---- what is given of it

pub text_given : (state : State) (number : ℕ) (text : List ℕ) (e : Entry) (gives : GivesShown state number text)
    → JournalHas text e → JournalHas gives.octets e
text_given state number text e gives has = record {
  bodies = gives.bodies;
  batches = gives.has;
  has = journal_has text gives.bodies e (text_has text gives.bodies gives.text_is gives.has.sized) has;
}
