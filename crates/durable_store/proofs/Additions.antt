-- A store with one record more.
use Rattle.std.proofs.Common.{◌≡◌, inl, inr, ⊎_elim, ℕ, List, [], ◌∷◌, ◌++◌, length, take, sym, ap, subst, ◌∙◌}
use Rattle.std.specs.Prelude.{◌↔◌, Err, IsErrOf, Option, ℤ}
use Rattle.disk.specs.States.{State}
use Rattle.syslog_value.specs.Parts.{Parts}
use Rattle.syslog_reading.specs.ShownParts.{IsViewOf, ViewParts}
use Rattle.syslog_reading.specs.WellFormed.{WellFormed}
use Rattle.syslog_reading.proofs.Laws.{one_meaning}
use Rattle.syslog_grammar.specs.ShownRecords.{AddsShown}
use Rattle.archive_text.specs.Entries.{Entry, Has, IsEntry, IsEntryOf}
use Rattle.archive_text.specs.Stores.{AddsEntry, AddsRecord}
use Rattle.archive_text.specs.declared.store.Added.TheVariants.{New, Held}
use Rattle.archive_text.proofs.Members.{has_either, has_left, has_right}
use Rattle.archive_text.proofs.Places.{adds_has}
use Rattle.archive_text.proofs.Shown.{shown_entry}
use Rattle.archive_text.proofs.Texts.{one_entry_of as one_entry}
use Rattle.record_store.specs.Holdings.{JournalHas}
use Rattle.record_store.specs.Stores.{IsSameButBatch, Sets, Stands as JournalStands, batch_of, with_waiting}
use Rattle.record_store.specs.declared.store.RecordStore.{RecordStore}
use Rattle.record_store.proofs.Standing.{stands_on}
use Rattle.durable_store.specs.Durables.{AddsTo, Stands, entries_of, journal_store}
use Rattle.durable_store.specs.Recovery.{Adds}
use Rattle.durable_store.specs.declared.store.DurableStore.{DurableStore}

-- a fault is told by a result of another type
pub same_fault : {S T E : Type 0} (x y : E) → IsErrOf {T = S} (Err x) y → IsErrOf {T = T} (Err x) y
same_fault x y is = let same : x ≡ y = cc is in ap (λ e. Err e) same

-- what was put behind the batch was taken back
pub taken_back : (store mid after : RecordStore) (state : State) (sets : Sets) (len : ℕ)
    → JournalStands store state sets → IsSameButBatch store mid → IsSameButBatch mid after
    → take (length (batch_of store)) (batch_of mid) ≡ batch_of store → batch_of after ≡ take len (batch_of mid)
    → len ≡ length (batch_of store) → JournalStands after state sets
taken_back store mid after state sets len stands one other behind taken len_is =
    stands_on store after state sets stands (other.journal ∙ one.journal) (other.number ∙ one.number)
    (other.broken ∙ one.broken)
    (taken ∙ ap (λ (n : ℕ). take n (batch_of mid)) len_is ∙ behind)

-- the set is what it was
pub still_held : (old new : List Entry) (since : List Entry) → new ≡ old → ((e : Entry) → Has old e ↔ Has since e)
    → (e : Entry) → Has new e ↔ Has since e
still_held old new since same held = subst (λ (l : List Entry). (e : Entry) → Has l e ↔ Has since e) (sym same) held

-- an entry more, in the set and among what came since
more_held : (old new since : List Entry) (f e : Entry) → f ≡ e → AddsEntry f old new New
    → ((x : Entry) → Has old x ↔ Has since x) → (x : Entry) → Has new x ↔ Has (since ++ e ∷ []) x
more_held old new since f e same adds held x = (
  λ has. ⊎_elim
      (λ first. has_right since (e ∷ []) x (inl (sym same ∙ first)))
      (λ before. has_left since (e ∷ []) x ((held x).0 before))
      ((adds_has f old new New adds x).0 has),
  λ has. (adds_has f old new New adds x).1 (⊎_elim
      (λ before. inr ((held x).1 before))
      (λ last. ⊎_elim (λ is. inl (same ∙ is)) (λ none. absurd none) last)
      (has_either since (e ∷ []) x has)),
)

pub new_added : (r : Parts ℤ) (old after : DurableStore) (state : State) (sets : Sets) (e : Entry) → IsEntryOf r e
    → JournalStands (journal_store after) state (with_waiting sets e) → Stands old state sets
    → AddsRecord r (entries_of old) (entries_of after) New → AddsTo r after state sets New
new_added r old after state sets e is journal stands (f, also, adds) = (
  e,
  is,
  record {
    journal = journal;
    held = more_held (entries_of old) (entries_of after) sets.since f e (one_entry r f e also is) adds stands.held;
  },
)

pub held_added : (r : Parts ℤ) (old after : DurableStore) (state : State) (sets : Sets)
    → JournalStands (journal_store after) state sets → Stands old state sets
    → AddsRecord r (entries_of old) (entries_of after) Held → AddsTo r after state sets Held
held_added r old after state sets journal stands (f, also, adds) = (
  f,
  also,
  record {
    journal = journal;
    held = still_held (entries_of old) (entries_of after) sets.since adds.1 stands.held;
  },
)

pub refused_stands : (old after : DurableStore) (state : State) (sets : Sets)
    → JournalStands (journal_store after) state sets → Stands old state sets → entries_of after ≡ entries_of old
    → Stands after state sets
refused_stands old after state sets journal stands same = record {
  journal = journal;
  held = still_held (entries_of old) (entries_of after) sets.since same stands.held;
}

-- the record that was put into the batch is the one that was put into the set
pub view_added : (s : ViewParts) (scratch b : List ℕ) (i : Option ℤ) (old after : DurableStore) (state : State)
    (sets : Sets) (h : AddsShown s [] scratch) → i ≡ s.instant → IsViewOf b s
    → (IsEntry (record { instant = i; octets = scratch })
    → JournalStands (journal_store after) state (with_waiting sets (record { instant = i; octets = scratch })))
    → Stands old state sets
    → (r : Parts ℤ) × WellFormed r b × AddsRecord r (entries_of old) (entries_of after) New
    → (r : Parts ℤ) × WellFormed r b × AddsTo r after state sets New
view_added s scratch b i old after state sets h is seen journal stands (r, formed, adds) =
    let e : Entry = record { instant = i; octets = scratch } in
    let same : h.shown ≡ r = one_meaning h.shown r b (h.spelled b seen) formed in
    let one : IsEntryOf r e = subst (λ (p : Parts ℤ). IsEntryOf p e) same (shown_entry s scratch i h is) in
    (r, formed, new_added r old after state sets e one (journal (r, one)) stands adds)

-- what was read of the batches
pub recovered : (none mid : List Entry) (text shown : List ℕ) → none ≡ [] → shown ≡ text
    → Adds none mid (JournalHas shown) → (e : Entry) → Has mid e ↔ JournalHas text e
recovered none mid text shown empty same adds e = (
  λ has. ⊎_elim
      (λ old. absurd (subst (λ (l : List Entry). Has l e) empty old))
      (λ read. subst (λ (t : List ℕ). JournalHas t e) same read)
      ((adds e).0 has),
  λ has. (adds e).1 (inr (subst (λ (t : List ℕ). JournalHas t e) (sym same) has)),
)
