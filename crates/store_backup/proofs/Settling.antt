-- The folder of a copy is brought to the disk.
use Rattle.std.proofs.Common.{◌≡◌, ◌⊎◌, inl, inr, ⊎_elim, ℕ, Bool, if◌then◌else◌, List, [], ◌∷◌, refl, sym, ap, subst, ◌∙◌}
use Rattle.std.proofs.Common.{◌<◌, arith, length}
use Rattle.std.specs.Option.{option_map}
use Rattle.std.proofs.lemmas.List.Elements.{Contains-append_left, Contains-push}
use Rattle.std.specs.Prelude.{Contains, IsSome, Option, None, Some, Result, Ok, Err, false}
use Rattle.disk.specs.Calls.{AreNames, IsUnchanged, Loses, SettlesNames, SyncsNames}
use Rattle.disk.specs.Files.{File}
use Rattle.disk.specs.Memory.{no_entry, shown_now}
use Rattle.disk.specs.States.{Entry, Files, State, kept}
use Rattle.disk.specs.declared.fault.DiskFault.{DiskFault}
use Rattle.record_store.proofs.Placed.{settled_either}
use Rattle.store_upkeep.specs.Compaction.{shown}
use Rattle.store_backup.specs.Backups.{HasNoEntries, IsBackup, IsDone, IsEmptyFolder, IsWritten, ShowsNothing, ShowsSome}
use Rattle.store_backup.specs.Copies.{HasCopies, IsNoneOrSettledCopy, IsVacantOrCopy, backup_draft}
use Rattle.store_backup.specs.declared.outcome.Backup.{Backup}
use Rattle.store_backup.proofs.Noting.{lists_shown}

-- ---- at the beginning

none_now : (o : Option File) → ¬ (IsSome o) → o ≡ None
none_now None not = refl
none_now (Some x) not = absurd (not refl)

-- where no name is told, there is no file
pub no_names : (state : State) (names : List (List ℕ)) → names ≡ [] → AreNames state names → state.lost ≡ false
    → (name : List ℕ) → (state.entries name).now ≡ None
no_names state names is listed sound name =
    none_now (state.entries name).now
    (λ some. nothing (subst (λ (l : List (List ℕ)). Contains l name) is ((listed sound name).1 some)))
  where
    no_list : List (List ℕ)
    no_list = []

    nothing : Contains no_list name → ⊥
    nothing (k, below, same) = omega (arith, below)

pub none_shows : (state : State) → ((name : List ℕ) → (state.entries name).now ≡ None) → ShowsNothing state
none_shows state none name = ap (λ (o : Option File). shown_now (record { now = o; past = []; moved = false })) (none name)

kept_none : (entry : Entry) → entry.now ≡ None → kept entry ≡ no_entry
kept_none entry none = ap (λ (o : Option File). record { now = o; past = []; moved = false }) none

pub begun : (zero one two : State) → IsUnchanged zero one → ((name : List ℕ) → (zero.entries name).now ≡ None)
    → zero.lost ≡ false → SettlesNames one two → IsEmptyFolder two
begun zero one two same none sound settles = record {
  none = λ name. settles.entries name
      ∙ ap (λ (b : Bool). if b then one.entries name else kept (one.entries name)) (same.lost ∙ sound)
      ∙ kept_none (one.entries name) (ap (λ (e : Entry). e.now) (same.entries name) ∙ none name);
  sound = settles.lost ∙ same.lost ∙ sound;
}

pub same_empty : (zero one : State) → IsUnchanged zero one → HasNoEntries zero → HasNoEntries one
same_empty zero one same none name = same.entries name ∙ none name

pub synced_empty : {T : Type 0} (one two : State) (synced : Result T DiskFault) → SyncsNames one two synced
    → HasNoEntries one → HasNoEntries two
synced_empty one two (Ok done) settles none name =
    ⊎_elim (λ same. same ∙ none name) (λ on_disk. on_disk ∙ ap kept (none name)) (settled_either one two name settles)
synced_empty one two (Err fault) fails none name =
    ⊎_elim (λ same. same.entries name ∙ none name) (λ loses. loses.entries name ∙ none name) fails

-- ---- at the end

module _ (files : Files) (two three : State) (backup : Backup) (written : IsWritten files two backup_draft backup)
    (settles : SettlesNames two three) where
  entry_is : (name : List ℕ) → three.entries name ≡ kept (two.entries name)
  entry_is name =
      settles.entries name
      ∙ ap (λ (b : Bool). if b then two.entries name else kept (two.entries name)) written.backing.sound

  shown_is : (name : List ℕ) → shown three name ≡ shown two name
  shown_is name = ap shown_now (entry_is name)

  settled_one : (name : List ℕ) → IsVacantOrCopy files name (two.entries name)
      → IsNoneOrSettledCopy files name (three.entries name)
  settled_one name (inl none) = inl (entry_is name ∙ ap kept none)
  settled_one name (inr (copy, is, put)) = inr (copy, is, entry_is name ∙ ap kept put)

  still_done : (name : List ℕ) → IsDone two backup.damaged.items name → IsDone three backup.damaged.items name
  still_done name (inl there) = inl (subst IsSome (sym (shown_is name)) there)
  still_done name (inr damaged) = inr damaged

  pub settled_backup : IsBackup files three backup
  settled_backup = record {
    all = λ name counts there. still_done name (written.all name counts there);
    only = λ name apart. settled_one name (written.backing.copies name apart);
    sound = settles.lost ∙ written.backing.sound;
    told = written.told;
    lists = lists_shown two three backup_draft backup.copied.items shown_is written.lists;
  }

-- or that fails
pub unsettled_copies : (files : Files) (two three : State) (draft : List ℕ) → IsUnchanged two three ⊎ Loses two three
    → HasCopies files two draft → HasCopies files three draft
unsettled_copies files two three draft fails copies name apart =
    subst (IsVacantOrCopy files name)
    (sym (⊎_elim (λ same. same.entries name) (λ loses. loses.entries name) fails)) (copies name apart)

-- where a name is told, there is a file
pub some_name : (state : State) (names : List (List ℕ)) → AreNames state names → state.lost ≡ false
    → 0 < length names → ShowsSome state
some_name state [] listed sound some = absurd (omega (arith, some))
some_name state (name ∷ names) listed sound some = (name, there ((state.entries name).now) here)
  where
    here : IsSome (state.entries name).now
    here = (listed sound name).0 (Contains-append_left (name ∷ []) names name (Contains-push [] name))

    there : (o : Option File) → IsSome o → IsSome (option_map (λ (f : File). f.shown) o)
    there None is = absurd (cc is)
    there (Some file) is = refl
