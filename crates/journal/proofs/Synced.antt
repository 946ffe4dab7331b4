-- What is shown is brought to the disk.
use Rattle.std.proofs.Common.{◌≡◌, ◌≢◌, ◌⊎◌, inl, inr, ⊎_elim, Bool, true, false, if◌then◌else◌, List, ℕ, refl, sym, ◌∙◌, ap}
use Rattle.std.proofs.Common.{subst}
use Rattle.std.specs.Prelude.{bytes_eq}
use Rattle.std.specs.Option.{option_map}
use Rattle.std.proofs.lemmas.Bool.{cases_Bool}
use Rattle.std.proofs.lemmas.Slice.Eq.{bytes_eq-Decides}
use Rattle.disk.specs.Memory.{shown_now}
use Rattle.std.specs.Prelude.{Option, Some, None}
use Rattle.disk.specs.Files.{File, settled}
use Rattle.disk.specs.States.{Entry, State, MayBe, NameMayLeave, kept}
use Rattle.disk.specs.Calls.{ChangesFile, FailsAt, IsUnchanged, Loses, SettlesNames}
use Rattle.disk.specs.declared.fault.DiskFault.{DiskFault}
use Rattle.journal.specs.Journals.{IsOnDisk, Shows, ShowsTheSame}
use Rattle.journal.proofs.Repair.{same_octets}

same_or_apart : (a b : List ℕ) → (a ≡ b) ⊎ (a ≢ b)
same_or_apart a b = ⊎_elim
    (λ yes. inl ((bytes_eq-Decides a b).0 yes))
    (λ no. inr (λ is. let yes : bytes_eq a b ≡ true = (bytes_eq-Decides a b).1 is in absurd (cc (yes, no))))
    (cases_Bool (bytes_eq a b))

only_shown : (shown : List ℕ) (octets : Option (List ℕ)) → MayBe (Some (settled shown)) octets → octets ≡ Some shown
only_shown shown None may = absurd may
only_shown shown (Some c) may = ap (λ (l : List ℕ). Some l) (same_octets shown c may)

pub fails_leaves : (old new : State) (name shown : List ℕ) (fault : DiskFault) (octets : Option (List ℕ))
    → FailsAt old new name fault (Loses old new) → NameMayLeave (new.entries name) octets
    → NameMayLeave (old.entries name) octets ⊎ (octets ≡ Some shown)
fails_leaves old new name shown fault octets fails may =
    let same = ⊎_elim (λ same. same.entries name) (λ loses. loses.entries name) fails.done in
    inl (subst (λ (e : Entry). NameMayLeave e octets) same may)

module _ (zero one two : State) (name : List ℕ) (file : File) (shows : Shows zero name file)
    (syncs : ChangesFile zero one name (λ f. if zero.lost then f else settled f.shown)) where
  some : Some syncs.file ≡ Some file
  some = sym syncs.was ∙ shows.now

  synced : one.entries name ≡ record (zero.entries name) { now = Some (settled file.shown) }
  synced =
      let same : syncs.file ≡ file = cc some in
      syncs.entry.here
      ∙ ap (λ (b : Bool). record (zero.entries name)
      { now = Some (if b then syncs.file else settled syncs.file.shown) }) shows.sound
      ∙ ap (λ (f : File). record (zero.entries name) { now = Some (settled f.shown) }) same

  pub names_fail : (octets : Option (List ℕ)) → IsUnchanged one two ⊎ Loses one two
      → NameMayLeave (two.entries name) octets → NameMayLeave (zero.entries name) octets ⊎ (octets ≡ Some file.shown)
  names_fail octets fails may =
      let same = ⊎_elim (λ same. same.entries name) (λ loses. loses.entries name) fails in
      ⊎_elim
      (λ shown. inr (only_shown file.shown octets shown))
      (λ before. inl (inr before))
      (subst (λ (e : Entry). NameMayLeave e octets) (same ∙ synced) may)

  pub on_disk : SettlesNames one two → IsOnDisk two name file.shown
  on_disk settles =
      let sound = syncs.entry.lost ∙ shows.sound in
      record {
        entry = settles.entries name ∙ ap (λ (b : Bool). if b then one.entries name else kept (one.entries name)) sound
            ∙ ap kept synced;
        sound = settles.lost ∙ sound;
      }

  pub on_disk_leaves : SettlesNames one two → (octets : Option (List ℕ)) → NameMayLeave (two.entries name) octets
      → NameMayLeave (zero.entries name) octets ⊎ (octets ≡ Some file.shown)
  on_disk_leaves settles octets may =
      ⊎_elim
      (λ shown. inr (only_shown file.shown octets shown))
      (λ none. absurd (⊎_elim (λ past. past) (λ moved. absurd (cc moved)) none))
      (subst (λ (e : Entry). NameMayLeave e octets) (on_disk settles).entry may)

-- ---- what a read shows

-- a file is synced
pub sync_shows : (old new : State) (name : List ℕ)
    → ChangesFile old new name (λ f. if old.lost then f else settled f.shown) → ShowsTheSame old new
sync_shows old new name syncs other = ⊎_elim
    (λ is.
    ap (λ (n : List ℕ). shown_now (new.entries n)) is
    ∙ ap shown_now syncs.entry.here
    ∙ changed_shown old.lost syncs.file
    ∙ ap (λ (o : Option File). option_map (λ (f : File). f.shown) o) (sym syncs.was)
    ∙ ap (λ (n : List ℕ). shown_now (old.entries n)) (sym is))
    (λ apart. ap shown_now (syncs.entry.others other apart))
    (same_or_apart other name)
  where
    changed_shown : (lost : Bool) (file : File) → Some (if lost then file else settled file.shown).shown ≡ Some file.shown
    changed_shown true file = refl
    changed_shown false file = refl

pub fail_shows : (old new : State) (name : List ℕ) (fault : DiskFault) → FailsAt old new name fault (Loses old new)
    → ShowsTheSame old new
fail_shows old new name fault fails other =
    ap shown_now (⊎_elim (λ same. same.entries other) (λ loses. loses.entries other) fails.done)

-- the names are, or that fails
pub settle_shows : (old new : State) → SettlesNames old new → ShowsTheSame old new
settle_shows old new settles other = ap shown_now (settles.entries other) ∙ either old.lost (old.entries other)
  where
    either : (lost : Bool) (e : Entry) → shown_now (if lost then e else kept e) ≡ shown_now e
    either true e = refl
    either false e = refl

pub names_fail_shows : (old new : State) → IsUnchanged old new ⊎ Loses old new → ShowsTheSame old new
names_fail_shows old new fails other =
    ap shown_now (⊎_elim (λ same. same.entries other) (λ loses. loses.entries other) fails)

pub then_shows : (zero one two : State) → ShowsTheSame zero one → ShowsTheSame one two → ShowsTheSame zero two
then_shows zero one two first second name = second name ∙ first name
