-- A store takes entries.
use Rattle.std.proofs.Common.{◌≡◌, ⊎_elim, inl, inr, List, [], ◌∷◌, ◌++◌, refl, sym, ap, subst, ◌∙◌, append_assoc}
use Rattle.std.specs.Prelude.{ℤ}
use Rattle.std.specs.List.{AllByRecursion}
use Rattle.std.proofs.lemmas.List.{append-nil}
use Rattle.disk.specs.States.{State}
use Rattle.syslog_value.specs.Parts.{Parts}
use Rattle.syslog_reading.specs.WellFormed.{WellFormed}
use Rattle.syslog_reading.proofs.Laws.{one_meaning}
use Rattle.syslog_grammar.proofs.CanonicalParses.{canonical_well_formed}
use Rattle.archive_text.specs.Entries.{Entry, Has, IsEntry, IsEntryOf}
use Rattle.archive_text.specs.Stores.{AddsRecord}
use Rattle.archive_text.specs.declared.store.Added.{Added}
use Rattle.archive_text.specs.declared.store.Added.TheVariants.{New, Held}
use Rattle.archive_text.proofs.Members.{all_right, has_either, has_left, has_new, has_right, of_member}
use Rattle.archive_text.proofs.Texts.{one_entry_of}
use Rattle.record_store.specs.Stores.{AreAmong, Sets, with_waiting}
use Rattle.durable_store.specs.Durables.{AddsTo, Stands, entries_of}
use Rattle.durable_store.specs.declared.store.DurableStore.{DurableStore}
use Rattle.serve_engine.specs.Keepings.{HandsOver, Kept}
use Rattle.store_keeper.specs.Keeping.{IsKept, StaysAs, Takes, TakesFront, with_held}

-- ---- one entry

-- the entry of what its octets are is that entry
same_entry : (e f : Entry) (r : Parts ℤ) → IsEntry e → WellFormed r e.octets → IsEntryOf r f → f ≡ e
same_entry e f r (q, is) formed also =
    let same : r ≡ q = one_meaning r q e.octets formed (canonical_well_formed q e.octets is.valid is.canonical) in
    one_entry_of q f e (subst (λ (p : Parts ℤ). IsEntryOf p f) same also) is

-- a new one was received, and waits
new_taken : (e : Entry) (old new : DurableStore)
    → ((state : State) (sets : Sets) → Stands old state sets → Stands new state (with_waiting sets e))
    → Takes old new (e ∷ [])
new_taken e old new on state k kept = record {
  sets = with_waiting kept.sets e;
  stands = on state kept.sets kept.stands;
  held = λ x. (
    λ h. pushed k.held kept.sets.received x (kept.held x).0 h,
    λ h. pushed kept.sets.received k.held x (kept.held x).1 h,
  );
  committed = kept.committed;
  waits = λ x h. ⊎_elim
      (λ before. ⊎_elim
      (λ done. inl done)
      (λ waits. inr (has_left kept.sets.waiting (e ∷ []) x waits))
      (kept.waits x before))
      (λ now. inr (has_right kept.sets.waiting (e ∷ []) x now))
      (has_either k.held (e ∷ []) x h);
}
  where
    pushed : (a b : List Entry) (x : Entry) → (Has a x → Has b x) → Has (a ++ e ∷ []) x → Has (b ++ e ∷ []) x
    pushed a b x into h = ⊎_elim
        (λ before. has_left b (e ∷ []) x (into before))
        (λ now. has_right b (e ∷ []) x now)
        (has_either a (e ∷ []) x h)

-- one that came since the last checkpoint was received before
held_taken : (e : Entry) (old new : DurableStore) → Has (entries_of old) e
    → ((state : State) (sets : Sets) → Stands old state sets → Stands new state sets) → Takes old new (e ∷ [])
held_taken e old new there on state k kept = record {
  sets = kept.sets;
  stands = on state kept.sets kept.stands;
  held = λ x. (λ h. (kept.held x).0 (back x h), λ h. has_left k.held (e ∷ []) x ((kept.held x).1 h));
  committed = kept.committed;
  waits = λ x h. kept.waits x (back x h);
}
  where
    had : Has k.held e
    had = (kept.held e).1 (kept.stands.journal.within e ((kept.stands.held e).0 there))

    back : (x : Entry) → Has (k.held ++ e ∷ []) x → Has k.held x
    back x h = ⊎_elim
        (λ before. before)
        (λ now. ⊎_elim (λ same. subst (Has k.held) same had) (λ none. absurd none) now)
        (has_either k.held (e ∷ []) x h)

-- of what was added
to_new : (e : Entry) (new : DurableStore) (state : State) (sets : Sets) → IsEntry e
    → (r : Parts ℤ) × WellFormed r e.octets × AddsTo r new state sets New → Stands new state (with_waiting sets e)
to_new e new state sets is (r, formed, (f, also, stands)) =
    subst (λ (x : Entry). Stands new state (with_waiting sets x)) (same_entry e f r is formed also) stands

to_held : (e : Entry) (new : DurableStore) (state : State) (sets : Sets)
    → (r : Parts ℤ) × WellFormed r e.octets × AddsTo r new state sets Held → Stands new state sets
to_held e new state sets (r, formed, (f, also, stands)) = stands

pub entry_taken : (e : Entry) (added : Added) (old new : DurableStore) → IsEntry e
    → (r : Parts ℤ) × WellFormed r e.octets × AddsRecord r (entries_of old) (entries_of new) added
    → ((state : State) (sets : Sets) → Stands old state sets
    → (r : Parts ℤ) × WellFormed r e.octets × AddsTo r new state sets added)
    → Takes old new (e ∷ [])
entry_taken e New old new is adds on =
    new_taken e old new (λ state sets stands. to_new e new state sets is (on state sets stands))
entry_taken e Held old new is (r, formed, (f, also, (there, same))) on =
    held_taken e old new (subst (Has (entries_of old)) (same_entry e f r is formed also) there)
    (λ state sets stands. to_held e new state sets (on state sets stands))

pub refused_stays : (old new : DurableStore)
    → ((state : State) (sets : Sets) → Stands old state sets → Stands new state sets) → StaysAs old new
refused_stays old new on state k kept = record {
  sets = kept.sets;
  stands = on state kept.sets kept.stands;
  held = kept.held;
  committed = kept.committed;
  waits = kept.waits;
}

-- ---- one after the other

takes_none : (store : DurableStore) → Takes store store []
takes_none store state k kept = subst (λ (l : List Entry). IsKept store state (record { held = l; committed = k.committed }))
    (sym (append-nil k.held)) kept

takes_then : (a b c : DurableStore) (es fs : List Entry) → Takes a b es → Takes b c fs → Takes a c (es ++ fs)
takes_then a b c es fs one other state k kept =
    subst (λ (l : List Entry). IsKept c state (record { held = l; committed = k.committed }))
    (append_assoc k.held es fs) (other state (with_held k es) (one state k kept))

-- ---- from a place on

pub front_none : (store : DurableStore) (all rest : List Entry) → rest ≡ all → TakesFront store store all rest
front_none store all rest same = record { front = []; parts = sym same; takes = takes_none store }

pub front_more : (old mid new : DurableStore) (all rest next : List Entry) (e : Entry)
    → TakesFront old mid all rest → rest ≡ e ∷ next → Takes mid new (e ∷ []) → TakesFront old new all next
front_more old mid new all rest next e t is more = record {
  front = t.front ++ e ∷ [];
  parts = t.parts ∙ ap (λ (l : List Entry). t.front ++ l) is ∙ sym (append_assoc t.front (e ∷ []) next);
  takes = takes_then old mid new t.front (e ∷ []) t.takes more;
}

-- the first of the rest is an entry
pub front_entry : (old new : DurableStore) (all rest next : List Entry) (e : Entry) → TakesFront old new all rest
    → rest ≡ e ∷ next → AllByRecursion IsEntry all → IsEntry e
front_entry old new all rest next e t is entries =
    of_member IsEntry all e entries
    (subst (λ (l : List Entry). Has l e) (sym (t.parts ∙ ap (λ (l : List Entry). t.front ++ l) is))
    (has_new t.front next e))

pub front_stays : (old mid new : DurableStore) (all rest : List Entry) → TakesFront old mid all rest
    → StaysAs mid new → TakesFront old new all rest
front_stays old mid new all rest t stays = record {
  front = t.front;
  parts = t.parts;
  takes = λ state k kept. stays state (with_held k t.front) (t.takes state k kept);
}

-- the entries from a place on are entries
pub place_entries : (all front rest : List Entry) → all ≡ front ++ rest → AllByRecursion IsEntry all
    → AllByRecursion IsEntry rest
place_entries all front rest is entries =
    all_right IsEntry front rest (subst (AllByRecursion IsEntry) is entries)

-- those before it, and then more
pub parts_join : (all front rest more next : List Entry) → all ≡ front ++ rest → rest ≡ more ++ next
    → all ≡ (front ++ more) ++ next
parts_join all front rest more next one two =
    one ∙ ap (λ (l : List Entry). front ++ l) two ∙ sym (append_assoc front more next)

pub among_front : (all front rest : List Entry) → all ≡ front ++ rest → AreAmong front all
among_front all front rest is x h = subst (λ (l : List Entry). Has l x) (sym is) (has_left front rest x h)

-- and where nothing is left, these are all
pub all_front : (all front rest : List Entry) → all ≡ front ++ rest → rest ≡ [] → front ≡ all
all_front all front rest is none =
    sym (is ∙ ap (λ (l : List Entry). front ++ l) none ∙ append-nil front)

-- ---- handed over

pub handed_all : (k : Kept) (old new : List Entry) → new ≡ [] → HandsOver k (with_held k old) old new
handed_all k old new none = record {
  same = λ x. (
    λ h. has_left (k.held ++ old) new x h,
    λ h. ⊎_elim
        (λ had. had)
        (λ more. absurd (subst (λ (l : List Entry). Has l x) none more))
        (has_either (k.held ++ old) new x h),
  );
  still = λ x h. has_left k.held old x h;
  committed = refl;
}

pub handed_some : (k : Kept) (some old : List Entry) → ((x : Entry) → Has some x → Has old x)
    → HandsOver k (with_held k some) old old
handed_some k some old among = record {
  same = λ x. (
    λ h. ⊎_elim
        (λ had. has_left (k.held ++ some) old x (has_left k.held some x had))
        (λ fresh. has_right (k.held ++ some) old x fresh)
        (has_either k.held old x h),
    λ h. ⊎_elim
        (λ had. ⊎_elim
        (λ before. has_left k.held old x before)
        (λ taken. has_right k.held old x (among x taken))
        (has_either k.held some x had))
        (λ fresh. has_right k.held old x fresh)
        (has_either (k.held ++ some) old x h),
  );
  still = λ x h. has_left k.held some x h;
  committed = refl;
}

-- ---- and then more

pub kept_both : (k : Kept) (store : DurableStore) (state : State) (some more : List Entry)
    → IsKept store state (with_held (with_held k some) more) → IsKept store state (with_held k (some ++ more))
kept_both k store state some more kept =
    subst (λ (l : List Entry). IsKept store state (record { held = l; committed = k.committed }))
    (append_assoc k.held some more) kept

-- none of them
pub none : (k : Kept) (store : DurableStore) (state : State) → IsKept store state k
    → IsKept store state (with_held k [])
none k store state kept = takes_none store state k kept
