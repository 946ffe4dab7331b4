-- The calls that put a whole file under a name, on the states of a disk.
use Rattle.std.proofs.Common.{◌≡◌, ◌≢◌, ◌⊎◌, inl, inr, ⊎_elim, ℕ, Bool, if◌then◌else◌, List, []}
use Rattle.std.proofs.Common.{sym, ap, subst, ◌∙◌}
use Rattle.std.specs.Prelude.{Option, Some, Result, Ok, Err}
use Rattle.std.proofs.lemmas.Bool.{cases_Bool}
use Rattle.disk.specs.Files.{File, settled, appended}
use Rattle.disk.specs.States.{Entry, NameMayLeave, State, kept, retired}
use Rattle.disk.specs.Calls.{ChangesFile, CreatesFile, FailsAt, IsUnchanged, Loses, RemovesFile, RenamesFile}
use Rattle.disk.specs.Calls.{SettlesNames, SyncsNames}
use Rattle.disk.specs.declared.fault.DiskFault.{DiskFault}
use Rattle.journal.specs.Journals.{IsOnDisk, IsSound, KeepsOthers, Shows}
use Rattle.record_store.specs.Puts.{KeepsOrSettlesApart, LeavesOldOr}
use Rattle.record_store.proofs.Leavings.{only_is, replaced_leaves}
use Rattle.record_store.proofs.Named.{same_or_apart}

-- there was no file to remove, or it is removed
pub cleared_sound : (old new : State) (name : List ℕ) (fault : DiskFault)
    → FailsAt old new name fault (RemovesFile old new name) → IsSound old → IsSound new
cleared_sound old new name fault fails sound =
    ⊎_elim (λ same. same.lost ∙ sound) (λ removes. removes.entry.lost ∙ sound) fails.done

shows_changed : (old new : State) (name : List ℕ) (file : File) (change : File → File) → Shows old name file
    → ChangesFile old new name change → Shows new name (change file)
shows_changed old new name file change shows changes =
    let some : Some changes.file ≡ Some file = sym changes.was ∙ shows.now in
    let same : changes.file ≡ file = cc some in
    record {
      now = ap (λ (e : Entry). e.now) changes.entry.here ∙ ap (λ (f : File). Some (change f)) same;
      sound = changes.entry.lost ∙ shows.sound;
    }

-- a new file is written and synced
pub drafted : (zero one two three : State) (name text : List ℕ) → IsSound zero → CreatesFile zero one name
    → ChangesFile one two name (appended text)
    → ChangesFile two three name (λ f. if two.lost then f else settled f.shown) → Shows three name (settled text)
drafted zero one two three name text sound creates appends syncs =
    let empty : Shows one name (settled []) = record {
      now = ap (λ (e : Entry). e.now) creates.entry.here;
      sound = creates.entry.lost ∙ sound;
    } in
    let written = shows_changed one two name (settled []) (appended text) empty appends in
    let synced = shows_changed two three name (appended text (settled []))
    (λ f. if two.lost then f else settled f.shown) written syncs in
    record {
      now = synced.now
          ∙ ap (λ (b : Bool). Some (if b then appended text (settled []) else settled text)) written.sound;
      sound = synced.sound;
    }

module _ (zero one two three : State) (draft name text : List ℕ) (apart : name ≢ draft)
    (others : KeepsOthers zero one draft) where
  same : one.entries name ≡ zero.entries name
  same = others name apart

  -- nothing was done to the name
  pub draft_fails : LeavesOldOr zero one name text
  draft_fails octets may = inl (subst (λ (e : Entry). NameMayLeave e octets) same may)

  module _ (whole : Shows one draft (settled text)) where
    target_is : RenamesFile one two draft name
        → two.entries name ≡ record (retired (zero.entries name)) { now = Some (settled text) }
    target_is renames =
        renames.target
        ∙ ap (λ (e : Entry). record (retired e) { now = (one.entries draft).now }) same
        ∙ ap (λ (f : Option File). record (retired (zero.entries name)) { now = f }) whole.now

    placed : RenamesFile one two draft name → LeavesOldOr zero two name text
    placed renames octets may =
        replaced_leaves (zero.entries name) text octets
        (subst (λ (e : Entry). NameMayLeave e octets) (target_is renames) may)

    pub rename_fails : (fault : DiskFault)
        → FailsAt one two draft fault ((draft ≢ name) × RenamesFile one two draft name)
        → LeavesOldOr zero two name text
    rename_fails fault fails octets may =
        ⊎_elim
        (λ still. inl (subst (λ (e : Entry). NameMayLeave e octets) (still.entries name ∙ same) may))
        (λ part. placed part.1 octets may)
        fails.done

    pub names_fail : RenamesFile one two draft name → IsUnchanged two three ⊎ Loses two three
        → LeavesOldOr zero three name text
    names_fail renames fails octets may =
        let stays : three.entries name ≡ two.entries name =
        ⊎_elim (λ still. still.entries name) (λ loses. loses.entries name) fails in
        placed renames octets (subst (λ (e : Entry). NameMayLeave e octets) stays may)

    pub is_put : RenamesFile one two draft name → SettlesNames two three → IsOnDisk three name text
    is_put renames settles =
        let sound = renames.lost ∙ whole.sound in
        record {
          entry = settles.entries name
              ∙ ap (λ (b : Bool). if b then two.entries name else kept (two.entries name)) sound
              ∙ ap kept (target_is renames);
          sound = settles.lost ∙ sound;
        }

    pub put_leaves : RenamesFile one two draft name → SettlesNames two three → LeavesOldOr zero three name text
    put_leaves renames settles octets may =
        inr (only_is text octets
        (subst (λ (e : Entry). NameMayLeave e octets) (is_put renames settles).entry may))

-- the names are settled, or a sync has failed before
pub settled_either : (old new : State) (name : List ℕ) → SettlesNames old new
    → (new.entries name ≡ old.entries name) ⊎ (new.entries name ≡ kept (old.entries name))
settled_either old new name settles =
    ⊎_elim
    (λ lost. inl (settles.entries name
    ∙ ap (λ (b : Bool). if b then old.entries name else kept (old.entries name)) lost))
    (λ sound. inr (settles.entries name
    ∙ ap (λ (b : Bool). if b then old.entries name else kept (old.entries name)) sound))
    (cases_Bool old.lost)

-- the folder is synced, or that fails
module _ {T : Type 0} (zero one two three : State) (draft name text : List ℕ) (apart : name ≢ draft)
    (others : KeepsOthers zero one draft) (whole : Shows one draft (settled text))
    (renames : RenamesFile one two draft name) where
  pub put_any : (synced : Result T DiskFault) → SyncsNames two three synced → LeavesOldOr zero three name text
  put_any (Ok done) settles = put_leaves zero one two three draft name text apart others whole renames settles
  put_any (Err fault) fails = names_fail zero one two three draft name text apart others whole renames fails

-- the names that are none of the two
renamed_others : (one two : State) (draft name other : List ℕ)
    → (draft ≡ name → IsUnchanged one two) × (draft ≢ name → RenamesFile one two draft name) → other ≢ draft
    → other ≢ name → two.entries other ≡ one.entries other
renamed_others one two draft name other renames from to =
    ⊎_elim
    (λ same. (renames.0 same).entries other)
    (λ apart. (renames.1 apart).others other from to)
    (same_or_apart draft name)

pub put_others : {T : Type 0} (zero one two three : State) (draft name : List ℕ) → KeepsOthers zero one draft
    → (draft ≡ name → IsUnchanged one two) × (draft ≢ name → RenamesFile one two draft name)
    → (synced : Result T DiskFault) → SyncsNames two three synced → KeepsOrSettlesApart zero three draft name
put_others zero one two three draft name others renames (Ok done) settles other from to =
    let same = renamed_others one two draft name other renames from to ∙ others other from in
    ⊎_elim (λ as_it_was. inl (as_it_was ∙ same)) (λ on_disk. inr (on_disk ∙ ap kept same))
    (settled_either two three other settles)
put_others zero one two three draft name others renames (Err fault) fails other from to =
    inl (⊎_elim (λ still. still.entries other) (λ loses. loses.entries other) fails
    ∙ renamed_others one two draft name other renames from to ∙ others other from)
