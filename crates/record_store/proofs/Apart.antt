-- Entries that segments hold, and those of older journals.
use Rattle.std.proofs.Common.{◌≡◌, ◌≢◌, ◌⊎◌, inl, inr, ⊎_elim, ℕ, ◌<◌, ◌^◌, List, [], refl, sym, ap, subst, ◌∙◌}
use Rattle.std.specs.Prelude.{Option, None, Some}
use Rattle.disk.specs.Calls.{IsUnchanged}
use Rattle.disk.specs.Memory.{shown_now}
use Rattle.disk.specs.States.{Entry as DiskEntry, NameMayLeave, State, kept}
use Rattle.journal.specs.Journals.{ShowsNoBatch}
use Rattle.archive_text.specs.Entries.{Entry, Has}
use Rattle.record_store.specs.Crashes.{HeldApart, InSegment}
use Rattle.record_store.specs.Holdings.{HeldAt, JournalHas}
use Rattle.record_store.specs.Names.{Counts, IsJournal, IsSegment, journal_name}
use Rattle.record_store.specs.Shown.{JournalsHave, JournalsWithin, NoneShownAbove, ShowsNoJournal, ShowsTheBatches}
use Rattle.record_store.specs.Shown.{ShowsWithin, journal_shown}
use Rattle.record_store.proofs.Batches.{journal_has}
use Rattle.record_store.proofs.Covering.{CoveredAt, OthersLeaveLess}
use Rattle.record_store.proofs.Leavings.{settled_may}
use Rattle.record_store.proofs.Named.{not_both, number_same_or_apart, other_number, same_or_apart}
use Rattle.record_store.proofs.Readings.{some_batches}

-- ---- segments

-- each segment leaves no more than before
pub segments_less : (old new : State)
    → ((day name : List ℕ) → IsSegment day name → (octets : Option (List ℕ)) → NameMayLeave (new.entries name) octets
    → NameMayLeave (old.entries name) octets)
    → (e : Entry) → InSegment old e → InSegment new e
segments_less old new less e held = record {
  day = held.day;
  name = held.name;
  segment = held.segment;
  holds = λ octets may. held.holds octets (less held.day held.name held.segment octets may);
}

-- one journal is another, and the other names are as they were, but that they may be on the disk now
pub segments_beside : (old new : State) (name : List ℕ) → IsJournal name
    → ((other : List ℕ) → other ≢ name
    → (new.entries other ≡ old.entries other) ⊎ (new.entries other ≡ kept (old.entries other)))
    → (e : Entry) → InSegment old e → InSegment new e
segments_beside old new name is others =
    segments_less old new (λ day other segment octets may.
    settled_may (old.entries other) (new.entries other) octets
    (others other (λ same. not_both day other (subst IsJournal (sym same) is) segment)) may)

-- one name is another, and holds as much
pub segments_covered : (old new : State) (changed : List ℕ) (given : Entry → Type 0) → OthersLeaveLess old new changed
    → ((octets : Option (List ℕ)) → NameMayLeave (new.entries changed) octets → CoveredAt old changed octets given)
    → (es : List Entry) → HeldApart old es → HeldApart new es
segments_covered old new changed given others here es apart e has =
    let held = apart e has in
    record {
      day = held.day;
      name = held.name;
      segment = held.segment;
      holds = λ octets may. ⊎_elim
          (λ (is : held.name ≡ changed).
          let at = here octets (subst (λ (n : List ℕ). NameMayLeave (new.entries n) octets) is may) in
          subst (λ (n : List ℕ). HeldAt n octets e) (sym is)
          (at.holds.kept e (subst (λ (n : List ℕ). HeldAt n at.was e) is
          (held.holds at.was (subst (λ (n : List ℕ). NameMayLeave (old.entries n) at.was) (sym is) at.may)))))
          (λ (differs : held.name ≢ changed).
          held.holds octets (others held.name (inr (held.day, held.segment)) differs octets may))
          (same_or_apart held.name changed);
    }

-- ---- the journals that are shown

pub within_then : (old new : State) (since : List Entry) → ((e : Entry) → JournalsHave new e → JournalsHave old e)
    → ((e : Entry) → InSegment old e → InSegment new e) → JournalsWithin old since → JournalsWithin new since
within_then old new since shown still within e has =
    ⊎_elim (λ those. inl those) (λ held. inr (still e held)) (within e (shown e has))

pub same_journals : (old new : State) → ((n : ℕ) → n < 2 ^ 64 → journal_shown new n ≡ journal_shown old n)
    → (e : Entry) → JournalsHave new e → JournalsHave old e
same_journals old new same e has = record {
  number = has.number;
  octets = has.octets;
  small = has.small;
  shown = sym (same has.number has.small) ∙ has.shown;
  has = has.has;
}

-- none is shown
pub no_journals : (state : State) → ShowsNoJournal state → (since : List Entry) → JournalsWithin state since
no_journals state none since e has =
    let gone : journal_shown state has.number ≡ None = none has.number has.small in absurd (cc (gone, has.shown))

-- one of them has the same batches
pub batches_journals : (old new : State) (number : ℕ) (octets : List ℕ) → number < 2 ^ 64
    → journal_shown old number ≡ Some octets → ShowsTheBatches old new (journal_name number)
    → (e : Entry) → JournalsHave new e → JournalsHave old e
batches_journals old new number octets small shown same e has = ⊎_elim
    (λ (is : has.number ≡ number).
    let some = some_batches octets in
    let found = same.here octets some.0 shown some.1 in
    let one : Some found.0 ≡ Some has.octets = sym found.1 ∙ ap (journal_shown new) (sym is) ∙ has.shown in
    let text : found.0 ≡ has.octets = cc one in
    record {
      number = number;
      octets = octets;
      small = small;
      shown = shown;
      has = record {
        bodies = some.0;
        batches = some.1;
        has = journal_has found.0 some.0 e found.2 (subst (λ (o : List ℕ). JournalHas o e) (sym text) has.has);
      };
    })
    (λ (apart : has.number ≢ number). record {
      number = has.number;
      octets = has.octets;
      small = has.small;
      shown = sym (same.others (journal_name has.number)
          (λ is. apart (other_number has.number number has.small small is))) ∙ has.shown;
      has = has.has;
    })
    (number_same_or_apart has.number number)

-- one of them has none
pub begun_journals : (old new : State) (number : ℕ) → number < 2 ^ 64 → ShowsNoBatch new (journal_name number)
    → ((other : List ℕ) → other ≢ journal_name number
    → shown_now (new.entries other) ≡ shown_now (old.entries other))
    → (e : Entry) → JournalsHave new e → JournalsHave old e
begun_journals old new number small no_batch others e has = ⊎_elim
    (λ (is : has.number ≡ number).
    let shown : journal_shown new number ≡ Some has.octets = ap (journal_shown new) (sym is) ∙ has.shown in
    absurd (journal_has has.octets [] e (no_batch has.octets shown) has.has))
    (λ (apart : has.number ≢ number). record {
      number = has.number;
      octets = has.octets;
      small = has.small;
      shown = sym (others (journal_name has.number)
          (λ is. apart (other_number has.number number has.small small is))) ∙ has.shown;
      has = has.has;
    })
    (number_same_or_apart has.number number)

-- the newest is another, and has no other entries
pub newest_journals : (old new : State) (number : ℕ) (since : List Entry) → NoneShownAbove new number
    → ((n : ℕ) → n < 2 ^ 64 → n ≢ number → journal_shown new n ≡ journal_shown old n)
    → ((e : Entry) → InSegment old e → InSegment new e) → ShowsWithin new since → JournalsWithin old since
    → JournalsWithin new since
newest_journals old new number since above same still newest older e has = ⊎_elim
    (λ (is : has.number ≡ number). inl (newest has.number has.octets
    (record { small = has.small; shown = has.shown; none_above = subst (NoneShownAbove new) (sym is) above })
    e has.has))
    (λ (apart : has.number ≢ number).
    ⊎_elim (λ those. inl those) (λ held. inr (still e held))
    (older e (record {
      number = has.number;
      octets = has.octets;
      small = has.small;
      shown = sym (same has.number has.small apart) ∙ has.shown;
      has = has.has;
    })))
    (number_same_or_apart has.number number)

-- segments hold all of them
pub held_journals : (state : State) (since : List Entry) → HeldApart state since → JournalsWithin state since
    → JournalsWithin state []
held_journals state since apart within e has =
    ⊎_elim (λ those. inr (apart e those)) (λ held. inr held) (within e has)

-- more came
pub more_journals : (state : State) (since more : List Entry) → ((e : Entry) → Has since e → Has more e)
    → JournalsWithin state since → JournalsWithin state more
more_journals state since more among within e has =
    ⊎_elim (λ those. inl (among e those)) (λ held. inr held) (within e has)

-- nothing has changed
pub unchanged_within : (old new : State) → IsUnchanged old new → (since : List Entry) → JournalsWithin old since
    → JournalsWithin new since
unchanged_within old new same since =
    within_then old new since (same_journals old new (λ n small. ap shown_now (same.entries (journal_name n))))
    (segments_less old new (λ day name segment octets may.
    subst (λ (x : DiskEntry). NameMayLeave x octets) (same.entries name) may))
