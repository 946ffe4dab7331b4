-- Copies are put into a folder.
use Rattle.std.proofs.Common.{◌≡◌, ◌≢◌, inl, inr, ⊎_elim, ℕ, List, [], ◌++◌, sym, ap, subst, ◌∙◌}
use Rattle.std.specs.Prelude.{Option, None, Some, false, if◌then◌else◌, Bool}
use Rattle.disk.specs.Calls.{ChangesFile, FailsAt, IsUnchanged, RenamesFile}
use Rattle.disk.specs.Files.{File, appended, settled}
use Rattle.disk.specs.Memory.{no_entry, shown_now}
use Rattle.disk.specs.States.{Entry, Files, State, retired}
use Rattle.disk.specs.declared.fault.DiskFault.{DiskFault}
use Rattle.journal.specs.Journals.{KeepsOthers}
use Rattle.record_store.proofs.Leavings.{shown_file}
use Rattle.record_store.proofs.Named.{same_or_apart}
use Rattle.store_backup.specs.Copies.{HasCopies, IsVacantOrCopy, put_entry}
use Rattle.store_backup.specs.Drafts.{IsDrafted, IsFreeFor, IsSettled, Places, ShowsStill}

-- ---- steps that change the draft alone

pub others_copies : (files : Files) (old new : State) (draft : List ℕ) → KeepsOthers old new draft
    → HasCopies files old draft → HasCopies files new draft
others_copies files old new draft others copies name apart =
    subst (IsVacantOrCopy files name) (sym (others name apart)) (copies name apart)

pub others_still : (old new : State) (draft : List ℕ) → KeepsOthers old new draft → ShowsStill old new draft
others_still old new draft others name text apart shown = ap shown_now (others name apart) ∙ shown

pub others_place : (files : Files) (old new : State) (draft name : List ℕ) → KeepsOthers old new draft
    → HasCopies files old draft → Places files old new draft name
others_place files old new draft name others copies = record {
  copies = others_copies files old new draft others copies;
  still = others_still old new draft others;
  others = λ other apart differs. others other apart;
}

pub others_then : (a b c : State) (draft : List ℕ) → KeepsOthers a b draft → KeepsOthers b c draft
    → KeepsOthers a c draft
others_then a b c draft one two name apart = two name apart ∙ one name apart

pub same_others : (old new : State) (draft : List ℕ) → IsUnchanged old new → KeepsOthers old new draft
same_others old new draft same name apart = same.entries name

-- what was there before is placed behind steps on the draft
pub place_then : (files : Files) (a b c : State) (draft name : List ℕ) → KeepsOthers a b draft
    → Places files b c draft name → Places files a c draft name
place_then files a b c draft name others places = record {
  copies = places.copies;
  still = λ other text apart shown. places.still other text apart (ap shown_now (others other apart) ∙ shown);
  others = λ other apart differs. places.others other apart differs ∙ others other apart;
}

-- ---- a draft is written

shows_changed : (old new : State) (draft : List ℕ) (text : List ℕ) (change : File → File)
    → shown_now (old.entries draft) ≡ Some text → ChangesFile old new draft change
    → (file : File) × ((new.entries draft).now ≡ Some (change file)) × (file.shown ≡ text)
shows_changed old new draft text change shown changes =
    let file = shown_file (old.entries draft).now text shown in
    let some : Some changes.file ≡ Some file.0 = sym changes.was ∙ file.1 in
    let same : changes.file ≡ file.0 = cc some in
    (file.0, ap (λ (e : Entry). e.now) changes.entry.here ∙ ap (λ (f : File). Some (change f)) same, file.2)

pub more_drafted : (old new : State) (draft text piece : List ℕ) → IsDrafted old draft text
    → ChangesFile old new draft (appended piece) → IsDrafted new draft (text ++ piece)
more_drafted old new draft text piece drafted changes =
    let file = shows_changed old new draft text (appended piece) drafted.shown changes in
    record {
      shown = ap (λ (o : Option File). shown_of o) file.1 ∙ ap (λ (l : List ℕ). Some (l ++ piece)) file.2;
      sound = changes.entry.lost ∙ drafted.sound;
    }
  where
    shown_of : Option File → Option (List ℕ)
    shown_of o = shown_now (record { now = o; past = []; moved = false })

pub draft_settled : (old new : State) (draft text : List ℕ) → IsDrafted old draft text
    → ChangesFile old new draft (λ f. if old.lost then f else settled f.shown) → IsSettled new draft text
draft_settled old new draft text drafted changes =
    let file = shows_changed old new draft text (λ f. if old.lost then f else settled f.shown) drafted.shown changes in
    record {
      now = file.1
          ∙ ap (λ (b : Bool). Some (if b then file.0 else settled file.0.shown)) drafted.sound
          ∙ ap (λ (l : List ℕ). Some (settled l)) file.2;
      sound = changes.entry.lost ∙ drafted.sound;
    }

-- ---- a draft gets its name

-- where nothing is, nothing ever was
pub vacant_is : (files : Files) (state : State) (draft name : List ℕ) → HasCopies files state draft → name ≢ draft
    → (state.entries name).now ≡ None → state.entries name ≡ no_entry
vacant_is files state draft name copies apart vacant = go (copies name apart)
  where
    go : IsVacantOrCopy files name (state.entries name) → state.entries name ≡ no_entry
    go (inl none) = none
    go (inr (copy, is, put)) =
        let both : None ≡ Some (settled copy) = sym vacant ∙ ap (λ (e : Entry). e.now) put in
        absurd (cc both)

module _ (files : Files) (old new : State) (draft name text : List ℕ) (whole : IsSettled old draft text)
    (free : IsFreeFor files old draft name text) (renames : RenamesFile old new draft name) where
  vacant : old.entries name ≡ no_entry
  vacant = vacant_is files old draft name free.copies free.apart free.vacant

  target : new.entries name ≡ put_entry text
  target =
      renames.target
      ∙ ap (λ (e : Entry). record (retired e) { now = (old.entries draft).now }) vacant
      ∙ ap (λ (f : Option File). record (retired no_entry) { now = f }) whole.now

  copies : HasCopies files new draft
  copies other apart =
      elim (same_or_apart other name) [
        | inl same ↦ subst (λ (n : List ℕ). IsVacantOrCopy files n (new.entries n)) (sym same)
            (inr (text, free.copy, target))
        | inr differs ↦ subst (IsVacantOrCopy files other) (sym (renames.others other apart differs))
            (free.copies other apart)
      ]

  still : ShowsStill old new draft
  still other shown_text apart shown =
      elim (same_or_apart other name) [
        | inl same ↦ let none : None ≡ Some shown_text =
            sym (ap (λ (n : List ℕ). shown_now (old.entries n)) same ∙ ap shown_now vacant) ∙ shown in
            absurd (cc none)
        | inr differs ↦ ap shown_now (renames.others other apart differs) ∙ shown
      ]

  pub renamed_places : Places files old new draft name
  renamed_places = record {
    copies = copies;
    still = still;
    others = λ other apart differs. renames.others other apart differs;
  }

  pub renamed_there : IsDrafted new name text
  renamed_there = record { shown = ap shown_now target; sound = renames.lost ∙ whole.sound }

-- or it gets none
pub unnamed_places : (files : Files) (old new : State) (draft name text : List ℕ) (fault : DiskFault)
    → IsSettled old draft text → IsFreeFor files old draft name text
    → FailsAt old new draft fault ((draft ≢ name) × RenamesFile old new draft name) → Places files old new draft name
unnamed_places files old new draft name text fault whole free fails =
    ⊎_elim
    (λ same. others_place files old new draft name (same_others old new draft same) free.copies)
    (λ part. renamed_places files old new draft name text whole free part.1)
    fails.done

-- what may get a name may still where only the draft was changed
pub free_then : (files : Files) (old new : State) (draft name text : List ℕ) → KeepsOthers old new draft
    → IsFreeFor files old draft name text → IsFreeFor files new draft name text
free_then files old new draft name text others free = record {
  copies = others_copies files old new draft others free.copies;
  vacant = ap (λ (e : Entry). e.now) (others name free.apart) ∙ free.vacant;
  apart = free.apart;
  copy = free.copy;
}
