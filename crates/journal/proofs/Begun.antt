-- An empty journal is being made: what a crash leaves under its name.
use Rattle.std.proofs.Common.{◌≡◌, ℕ, ◌≤◌, ◌⊎◌, inl, inr, Bool, true, false, if◌then◌else◌, List, [], ◌∷◌, ◌++◌}
use Rattle.std.proofs.Common.{length, take, refl, sym, subst, ◌∙◌, ap, arith}
use Rattle.std.specs.Prelude.{Option, None, Some, IsSomeAnd}
use Rattle.std.proofs.lemmas.List.{length-append, length-take}
use Rattle.disk.specs.Files.{File, MayBecome, settled, appended, appended_in_part}
use Rattle.disk.specs.Memory.{shown_now}
use Rattle.disk.specs.States.{AnyMayBe, Entry, MayBe, NameMayLeave, State, kept, retired}
use Rattle.disk.specs.Calls.{ChangesFile, CreatesFile, FailsAt, IsUnchanged, Loses, SettlesNames}
use Rattle.disk.specs.declared.fault.DiskFault.{DiskFault}
use Rattle.journal.specs.Batches.{HasBatches, open_batch}
use Rattle.journal.specs.Journals.{LeavesNoBatch, ShowsNoBatch}

-- a file under the name, in place of what was there, that is at most one octet long whatever a crash leaves of it
pub record Young (old new : State) (name : List ℕ) : Type 0 where
  pub file : File
  pub entry : new.entries name ≡ record (retired (old.entries name)) { now = Some file }
  pub short : length file.shown ≤ 1
  pub longest : file.longest ≤ 1

no_batch : (octets body rest : List ℕ) → length octets ≤ 1 → octets ≡ open_batch body ++ rest → ⊥
no_batch octets body rest few is =
    omega (arith, few, ap length is, length-append (open_batch body) rest)

-- so few octets are no batch
few_octets : (octets : List ℕ) → length octets ≤ 1 → HasBatches octets []
few_octets octets few =
    record { tail = octets; text = refl; closed = λ body rest sized is. no_batch octets body rest few is; sized = tt }

-- what a crash leaves of what was there before
earlier : (past : List (Option File)) (last : Option File) (octets : Option (List ℕ))
    → AnyMayBe (past ++ last ∷ []) octets
    → MayBe last octets ⊎ AnyMayBe past octets
earlier [] last octets (inl h) = inl h
earlier [] last octets (inr h) = absurd h
earlier (file ∷ past) last octets (inl h) = inr (inl h)
earlier (file ∷ past) last octets (inr h) =
    elim (earlier past last octets h) [ inl k ↦ inl k | inr k ↦ inr (inr k) ]

short_file : (file : File) (octets : Option (List ℕ)) → length file.shown ≤ 1 → file.longest ≤ 1
    → IsSomeAnd octets (MayBecome file) → IsSomeAnd octets (λ found. HasBatches found [])
short_file file None short few h = absurd h
short_file file (Some octets) short few h = few_octets octets (omega (arith, short, few, h.no_longer))

leaves_young : (entry : Entry) (file : File) (octets : Option (List ℕ)) → length file.shown ≤ 1 → file.longest ≤ 1
    → NameMayLeave (record (retired entry) { now = Some file }) octets
    → NameMayLeave entry octets ⊎ IsSomeAnd octets (λ found. HasBatches found [])
leaves_young entry file octets short few (inl now) = inr (short_file file octets short few now)
leaves_young entry file octets short few (inr (inl past)) =
    elim (earlier entry.past entry.now octets past) [ inl k ↦ inl (inl k) | inr k ↦ inl (inr (inl k)) ]
leaves_young entry file octets short few (inr (inr moved)) = inl (inr (inr moved))

young_leaves : (old new : State) (name : List ℕ) → Young old new name → LeavesNoBatch old new name
young_leaves old new name y octets may =
    leaves_young (old.entries name) y.file octets y.short y.longest
    (subst (λ (e : Entry). NameMayLeave e octets) y.entry may)

-- the name is as it was, or such a file is under it
abbrev pub AsWasOrYoung : State → State → List ℕ → Type 0
AsWasOrYoung old new name = (new.entries name ≡ old.entries name) ⊎ Young old new name

pub begun_leaves : (old new : State) (name : List ℕ) → AsWasOrYoung old new name → LeavesNoBatch old new name
begun_leaves old new name (inl same) octets may = inl (subst (λ (e : Entry). NameMayLeave e octets) same may)
begun_leaves old new name (inr young) octets may = young_leaves old new name young octets may

pub begun_shows : (old new : State) (name : List ℕ) → AsWasOrYoung old new name
    → shown_now (old.entries name) ≡ None → ShowsNoBatch new name
begun_shows old new name (inl same) none octets some =
    let there : shown_now (new.entries name) ≡ None = ap shown_now same ∙ none in absurd (cc (there, some))
begun_shows old new name (inr young) none octets some =
    let there : shown_now (new.entries name) ≡ Some young.file.shown = ap shown_now young.entry in
    let is : young.file.shown ≡ octets = cc (there, some) in
    subst (λ (l : List ℕ). HasBatches l []) is (few_octets young.file.shown young.short)

-- the file is made
pub young_made : (old new : State) (name : List ℕ) → CreatesFile old new name → Young old new name
young_made old new name made =
    record { file = settled []; entry = made.entry.here; short = omega arith; longest = omega arith }

-- or it may be
pub made_begun : (old new : State) (name : List ℕ) → IsUnchanged old new ⊎ CreatesFile old new name
    → AsWasOrYoung old new name
made_begun old new name (inl same) = inl (same.entries name)
made_begun old new name (inr made) = inr (young_made old new name made)

-- its entry is as it was
still_young : (old mid new : State) (name : List ℕ) → Young old mid name → new.entries name ≡ mid.entries name
    → Young old new name
still_young old mid new name y same =
    record { file = y.file; entry = same ∙ y.entry; short = y.short; longest = y.longest }

-- its file is changed into one that is short too
changed : (old mid new : State) (name : List ℕ) (change : File → File) (file : File)
    → mid.entries name ≡ record (retired (old.entries name)) { now = Some file } → ChangesFile mid new name change
    → length (change file).shown ≤ 1 → (change file).longest ≤ 1 → Young old new name
changed old mid new name change file entry c short longest =
    let some : Some c.file ≡ Some file = sym c.was ∙ ap (λ (e : Entry). e.now) entry in
    let same : c.file ≡ file = cc some in
    record {
      file = change file;
      entry = c.entry.here ∙ ap (λ (e : Entry). record e { now = Some (change c.file) }) entry
          ∙ ap (λ (f : File). record (retired (old.entries name)) { now = Some (change f) }) same;
      short = short;
      longest = longest;
    }

one_octet : (n : ℕ) → length {A = ℕ} (take n (254 ∷ [])) ≤ 1
one_octet n = omega (arith, length-take {A = ℕ} n (254 ∷ []))

-- an octet is written
pub octet_written : (old mid new : State) (name : List ℕ) → CreatesFile old mid name
    → ChangesFile mid new name (appended (254 ∷ [])) → Young old new name
octet_written old mid new name made c =
    changed old mid new name (appended (254 ∷ [])) (settled []) made.entry.here c (omega arith) (omega arith)

pub octet_failed : (old mid new : State) (name : List ℕ) (fault : DiskFault) → CreatesFile old mid name
    → FailsAt mid new name fault ((n : ℕ) × ChangesFile mid new name (appended_in_part n (254 ∷ [])))
    → AsWasOrYoung old new name
octet_failed old mid new name fault made f =
    inr (elim f.done [
      | inl same ↦ still_young old mid new name (young_made old mid name made) (same.entries name)
      | inr (n, c) ↦ changed old mid new name (appended_in_part n (254 ∷ [])) (settled []) made.entry.here c (one_octet n)
          (omega arith)
    ])

-- the file is synced
pub sync_failed : (old mid new : State) (name : List ℕ) (fault : DiskFault) → Young old mid name
    → FailsAt mid new name fault (Loses mid new) → AsWasOrYoung old new name
sync_failed old mid new name fault y f =
    inr (elim f.done [
      | inl same ↦ still_young old mid new name y (same.entries name)
      | inr lost ↦ still_young old mid new name y (lost.entries name)
    ])

short_synced : (lost : Bool) (file : File) → length file.shown ≤ 1 → file.longest ≤ 1
    → (length (if lost then file else settled file.shown).shown ≤ 1)
    × ((if lost then file else settled file.shown).longest ≤ 1)
short_synced true file short longest = (short, longest)
short_synced false file short longest = (short, short)

pub synced : (old mid new : State) (name : List ℕ) → Young old mid name
    → ChangesFile mid new name (λ file. if mid.lost then file else settled file.shown) → Young old new name
synced old mid new name y c =
    let few = short_synced mid.lost y.file y.short y.longest in
    changed old mid new name (λ file. if mid.lost then file else settled file.shown) y.file y.entry c few.0 few.1

-- the names are not
pub names_failed : (old mid new : State) (name : List ℕ) → Young old mid name → IsUnchanged mid new ⊎ Loses mid new
    → AsWasOrYoung old new name
names_failed old mid new name y (inl same) = inr (still_young old mid new name y (same.entries name))
names_failed old mid new name y (inr lost) = inr (still_young old mid new name y (lost.entries name))

-- and they are
pub names_settled : (old mid new : State) (name : List ℕ) → Young old mid name → SettlesNames mid new
    → ShowsNoBatch new name
names_settled old mid new name y settles octets some =
    let same : shown_now (new.entries name) ≡ shown_now (mid.entries name) =
    ap shown_now (settles.entries name) ∙ if_shown mid.lost (mid.entries name) in
    let there : shown_now (mid.entries name) ≡ Some y.file.shown = ap shown_now y.entry in
    let is : y.file.shown ≡ octets = cc (same, there, some) in
    subst (λ (l : List ℕ). HasBatches l []) is (few_octets y.file.shown y.short)
  where
    if_shown : (lost : Bool) (e : Entry) → shown_now (if lost then e else kept e) ≡ shown_now e
    if_shown true e = refl
    if_shown false e = refl
