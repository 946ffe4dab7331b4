-- What a crash may leave of a folder, against what it might have left before.
use Rattle.std.proofs.Common.{◌≡◌, ◌≢◌, ◌⊎◌, inl, ⊎_elim, ℕ, Bool, if◌then◌else◌, List, refl, sym, ap, subst}
use Rattle.std.specs.Prelude.{Option, bytes_eq}
use Rattle.std.proofs.lemmas.Bool.{cases_Bool}
use Rattle.std.proofs.lemmas.Slice.Eq.{bytes_eq-Decides}
use Rattle.disk.specs.Calls.{IsUnchanged}
use Rattle.disk.specs.States.{Entry as DiskEntry, Files, NameMayLeave, State, kept}
use Rattle.archive_text.specs.Entries.{Entry, Has}
use Rattle.record_store.specs.Crashes.{Keeps, MayLeaveCounted}
use Rattle.record_store.specs.Holdings.{Holds}
use Rattle.record_store.specs.Names.{Counts}
use Rattle.record_store.proofs.Folders.{HoldsAt, one_changes}
use Rattle.record_store.proofs.Leavings.{settled_may}
use Rattle.record_store.proofs.Named.{same_or_apart}

-- ---- another file under a name

abbrev pub with_file : Files → List ℕ → Option (List ℕ) → Files
with_file files name file other = if bytes_eq other name then file else files other

pub with-here : (files : Files) (name other : List ℕ) (file : Option (List ℕ)) → other ≡ name
    → with_file files name file other ≡ file
with-here files name other file is =
    ap (λ (b : Bool). if b then file else files other) ((bytes_eq-Decides other name).1 is)

pub with-other : (files : Files) (name other : List ℕ) (file : Option (List ℕ)) → other ≢ name
    → with_file files name file other ≡ files other
with-other files name other file apart =
    ap (λ (b : Bool). if b then file else files other)
    (⊎_elim (λ yes. absurd (apart ((bytes_eq-Decides other name).0 yes))) (λ no. no) (cases_Bool (bytes_eq other name)))

-- ---- one folder after the other

-- of a folder that a crash leaves: one that it might have left before, that holds as much and no more but what is given
pub record Covered (old : State) (after : Files) (given : Entry → Type 0) : Type 0 where
  pub before : Files
  pub may : MayLeaveCounted old before
  pub holds : Holds before after given

abbrev pub Covers : State → State → (Entry → Type 0) → Type 0
Covers old new given = (after : Files) → MayLeaveCounted new after → Covered old after given

pub covers_keeps : (old new : State) (given : Entry → Type 0) → Covers old new given
    → (committed received : List Entry) → ((e : Entry) → given e → Has received e) → Keeps old committed received
    → Keeps new committed received
covers_keeps old new given covers committed received were keeps = record {
  nothing_lost = λ after may e has.
      let c = covers after may in c.holds.kept e (keeps.nothing_lost c.before c.may e has);
  nothing_forged = λ after may e held.
      let c = covers after may in
      ⊎_elim (keeps.nothing_forged c.before c.may e) (were e) (c.holds.only e held);
}

-- each name that counts leaves no more than before
pub less_covers : (old new : State) (given : Entry → Type 0)
    → ((name : List ℕ) → Counts name → (octets : Option (List ℕ)) → NameMayLeave (new.entries name) octets
    → NameMayLeave (old.entries name) octets)
    → Covers old new given
less_covers old new given less after may = record {
  before = after;
  may = λ name counts. less name counts (after name) (may name counts);
  holds = record { kept = λ e held. held; only = λ e held. inl held };
}

pub unchanged_keeps : (old new : State) → IsUnchanged old new → (committed received : List Entry)
    → Keeps old committed received → Keeps new committed received
unchanged_keeps old new same committed received keeps =
    covers_keeps old new (λ e. ⊥) (less_covers old new (λ e. ⊥)
    (λ name counts octets may. subst (λ (e : DiskEntry). NameMayLeave e octets) (same.entries name) may))
    committed received (λ e none. absurd none) keeps

-- the same of one name
pub record CoveredAt (old : State) (name : List ℕ) (octets : Option (List ℕ)) (given : Entry → Type 0) : Type 0 where
  pub was : Option (List ℕ)
  pub may : NameMayLeave (old.entries name) was
  pub holds : HoldsAt name was octets given

-- what it might have left before
pub covered_as_before : (old : State) (name : List ℕ) (octets : Option (List ℕ)) (given : Entry → Type 0)
    → NameMayLeave (old.entries name) octets → CoveredAt old name octets given
covered_as_before old name octets given may =
    record { was = octets; may = may; holds = record { kept = λ e held. held; only = λ e held. inl held } }

-- the other names leave no more than before
abbrev pub OthersLeaveLess : State → State → List ℕ → Type 0
OthersLeaveLess old new name = (other : List ℕ) → Counts other → other ≢ name → (octets : Option (List ℕ))
    → NameMayLeave (new.entries other) octets → NameMayLeave (old.entries other) octets

pub others_settled : (old new : State) (name : List ℕ)
    → ((other : List ℕ) → other ≢ name
    → (new.entries other ≡ old.entries other) ⊎ (new.entries other ≡ kept (old.entries other)))
    → OthersLeaveLess old new name
others_settled old new name settles other counts apart octets may =
    settled_may (old.entries other) (new.entries other) octets (settles other apart) may

pub others_same : (old new : State) (name : List ℕ)
    → ((other : List ℕ) → other ≢ name → new.entries other ≡ old.entries other) → OthersLeaveLess old new name
others_same old new name same other counts apart octets may =
    subst (λ (e : DiskEntry). NameMayLeave e octets) (same other apart) may

pub one_covers : (old new : State) (name : List ℕ) (given : Entry → Type 0) → Counts name
    → OthersLeaveLess old new name
    → ((octets : Option (List ℕ)) → NameMayLeave (new.entries name) octets → CoveredAt old name octets given)
    → Covers old new given
one_covers old new name given counts others here after may =
    let at = here (after name) (may name counts) in
    record {
      before = with_file after name at.was;
      may = λ other other_counts. ⊎_elim
          (λ (is : other ≡ name). subst (λ (n : List ℕ). NameMayLeave (old.entries n)
          (with_file after name at.was other)) (sym is)
          (subst (λ (o : Option (List ℕ)). NameMayLeave (old.entries name) o)
          (sym (with-here after name other at.was is)) at.may))
          (λ (apart : other ≢ name). subst (λ (o : Option (List ℕ)). NameMayLeave (old.entries other) o)
          (sym (with-other after name other at.was apart))
          (others other other_counts apart (after other) (may other other_counts)))
          (same_or_apart other name);
      holds = one_changes (with_file after name at.was) after name given
          (λ other other_counts apart. sym (with-other after name other at.was apart))
          (subst (λ (o : Option (List ℕ)). HoldsAt name o (after name) given)
          (sym (with-here after name name at.was refl)) at.holds);
    }
