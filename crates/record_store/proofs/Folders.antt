-- What a folder holds, once what is under one of its names is another.
use Rattle.std.proofs.Common.{◌≡◌, ◌≢◌, ◌⊎◌, inl, inr, ⊎_elim, ℕ, List, sym, subst}
use Rattle.std.specs.Prelude.{Option, None, Some}
use Rattle.disk.specs.States.{Entry as DiskEntry, Files, MayLeave, NameMayLeave, State}
use Rattle.archive_text.specs.Entries.{Entry}
use Rattle.record_store.specs.Crashes.{Keeps, MayLeaveCounted, Rests}
use Rattle.record_store.specs.Holdings.{Held, HeldAt, Holds}
use Rattle.record_store.specs.Names.{Counts}
use Rattle.record_store.proofs.Leavings.{resting_is}
use Rattle.record_store.proofs.Named.{same_or_apart}

-- what holds something counts
pub held_counts : (name : List ℕ) (file : Option (List ℕ)) (e : Entry) → HeldAt name file e → Counts name
held_counts name None e held = absurd held
held_counts name (Some file) e (inl journal) = inl journal.0
held_counts name (Some file) e (inr (day, segment, has)) = inr (day, segment)

-- all that one file holds, and of others only what is given
pub record HoldsAt (name : List ℕ) (before after : Option (List ℕ)) (given : Entry → Type 0) : Type 0 where
  pub kept : (e : Entry) → HeldAt name before e → HeldAt name after e
  pub only : (e : Entry) → HeldAt name after e → HeldAt name before e ⊎ given e

-- another file under one name
module _ (before after : Files) (name : List ℕ) (given : Entry → Type 0)
    (others : (other : List ℕ) → Counts other → other ≢ name → after other ≡ before other)
    (here : HoldsAt name (before name) (after name) given) where
  keeps_one : (e : Entry) → Held before e → Held after e
  keeps_one e held = ⊎_elim
      (λ (is : held.name ≡ name). record {
        name = name;
        at = here.kept e (subst (λ (n : List ℕ). HeldAt n (before n) e) is held.at);
      })
      (λ apart. record {
        name = held.name;
        at = subst (λ (o : Option (List ℕ)). HeldAt held.name o e)
            (sym (others held.name (held_counts held.name (before held.name) e held.at) apart)) held.at;
      })
      (same_or_apart held.name name)

  only_one : (e : Entry) → Held after e → Held before e ⊎ given e
  only_one e held = ⊎_elim
      (λ (is : held.name ≡ name). ⊎_elim
      (λ (was : HeldAt name (before name) e). inl (record { name = name; at = was }))
      (λ new. inr new)
      (here.only e (subst (λ (n : List ℕ). HeldAt n (after n) e) is held.at)))
      (λ apart. inl (record {
        name = held.name;
        at = subst (λ (o : Option (List ℕ)). HeldAt held.name o e)
            (others held.name (held_counts held.name (after held.name) e held.at) apart) held.at;
      }))
      (same_or_apart held.name name)

  pub one_changes : Holds before after given
  one_changes = record { kept = keeps_one; only = only_one }

-- ---- a folder that rests

pub rests_is : (state : State) (files after : Files) (name : List ℕ) → Rests state files → Counts name
    → NameMayLeave (state.entries name) (after name) → after name ≡ files name
rests_is state files after name rests counts may =
    resting_is (files name) (after name)
    (subst (λ (e : DiskEntry). NameMayLeave e (after name)) (rests.entries name counts) may)

-- nothing is given
abbrev pub nothing : Entry → Type 0
nothing e = ⊥

-- a folder that rests is what a crash leaves of it
pub rests_holds : (state : State) (files after : Files) → Rests state files → MayLeaveCounted state after
    → Holds files after nothing
rests_holds state files after rests may = record {
  kept = λ e held. record {
    name = held.name;
    at = subst (λ (o : Option (List ℕ)). HeldAt held.name o e)
        (sym (rests_is state files after held.name rests (held_counts held.name (files held.name) e held.at)
        (may held.name (held_counts held.name (files held.name) e held.at)))) held.at;
  };
  only = λ e held. inl (record {
    name = held.name;
    at = subst (λ (o : Option (List ℕ)). HeldAt held.name o e)
        (rests_is state files after held.name rests (held_counts held.name (after held.name) e held.at)
        (may held.name (held_counts held.name (after held.name) e held.at))) held.at;
  });
}

-- ---- a name is gone whose entries other names have

module _ (before after : Files) (name : List ℕ)
    (others : (other : List ℕ) → Counts other → other ≢ name → after other ≡ before other)
    (gone : (after name ≡ before name) ⊎ (after name ≡ None))
    (elsewhere : (e : Entry) → HeldAt name (before name) e
    → (other : List ℕ) × (other ≢ name) × HeldAt other (before other) e) where
  held_there : (e : Entry) (other : List ℕ) → other ≢ name → HeldAt other (before other) e → Held after e
  held_there e other apart held = record {
    name = other;
    at = subst (λ (o : Option (List ℕ)). HeldAt other o e)
        (sym (others other (held_counts other (before other) e held) apart)) held;
  }

  pub gone_holds : Holds before after nothing
  gone_holds = record {
    kept = λ e held. ⊎_elim
        (λ (is : held.name ≡ name).
        let there = elsewhere e (subst (λ (n : List ℕ). HeldAt n (before n) e) is held.at) in
        held_there e there.0 there.1 there.2)
        (λ apart. held_there e held.name apart held.at)
        (same_or_apart held.name name);
    only = λ e held. ⊎_elim
        (λ (is : held.name ≡ name).
        let here = subst (λ (n : List ℕ). HeldAt n (after n) e) is held.at in
        ⊎_elim
        (λ same. inl (record {
          name = name;
          at = subst (λ (o : Option (List ℕ)). HeldAt name o e) same here;
        }))
        (λ none. absurd (subst (λ (o : Option (List ℕ)). HeldAt name o e) none here))
        gone)
        (λ apart. inl (record {
          name = held.name;
          at = subst (λ (o : Option (List ℕ)). HeldAt held.name o e)
              (others held.name (held_counts held.name (after held.name) e held.at) apart) held.at;
        }))
        (same_or_apart held.name name);
  }

-- ---- a machine starts on what a crash left

pub restarted : (state anew : State) (files : Files) (committed received : List Entry) → Keeps state committed received
    → MayLeave state files → Rests anew files → Keeps anew committed received
restarted state anew files committed received keeps may rests = record {
  nothing_lost = λ after left e has. (rests_holds anew files after rests left).kept e
      (keeps.nothing_lost files (λ name counts. may name) e has);
  nothing_forged = λ after left e held. ⊎_elim
      (keeps.nothing_forged files (λ name counts. may name) e)
      (λ none. absurd none)
      ((rests_holds anew files after rests left).only e held);
}
