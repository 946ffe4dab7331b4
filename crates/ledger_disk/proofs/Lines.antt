-- The lines of a ledger through calls of its disk.
use Rattle.std.proofs.Common.{◌≡◌, ◌≢◌, ◌⊎◌, ℕ, ◌+◌, ◌-◌, ◌<◌, ◌≤◌}
use Rattle.std.proofs.Common.{Bool, List, [], ◌++◌, Option, Some, true, false, if◌then◌else◌}
use Rattle.std.proofs.Common.{length, take, inl, inr, sym, refl, ap, subst, ◌∙◌, arith, length-append, append_assoc}
use Rattle.std.proofs.Math.Seq.{take-append-add}
use Rattle.std.proofs.lemmas.List.{length-take}
use Rattle.std.specs.Prelude.{Result, Ok, Err}
use Rattle.disk.specs.Calls.{Appends, ChangesFile, Cuts, FailsAt, IsUnchanged, Loses, Syncs}
use Rattle.disk.specs.Files.{File, appended, appended_in_part, cut_to, settled}
use Rattle.disk.specs.States.{Entry, State}
use Rattle.disk.specs.declared.fault.DiskFault.{DiskFault}
use Rattle.journal.specs.Journals.{IsSound, only_file}
use Rattle.ledger_disk.specs.Ledgers.{HoldsLines, IsLinesEnd}

-- a file that begins with lines that are on the disk
record Holds (file : File) (lines : List ℕ) : Type 0 where
  behind : List ℕ
  shown : file.shown ≡ lines ++ behind
  synced : length lines ≤ file.synced
  untouched : file.rewritten ≡ []

held : (state : State) (name lines : List ℕ) (h : HoldsLines state name lines) → Holds h.file lines
held state name lines h = record {
  behind = h.behind;
  shown = h.shown;
  synced = h.synced;
  untouched = h.untouched;
}

holds_lines : (state : State) (name lines : List ℕ) (file : File) → state.entries name ≡ only_file file
    → Holds file lines → HoldsLines state name lines
holds_lines state name lines file is h = record {
  file = file;
  entry = is;
  behind = h.behind;
  shown = h.shown;
  synced = h.synced;
  untouched = h.untouched;
}

-- the only file under a name is changed
only_changed : (a b : State) (name : List ℕ) (file : File) (change : File → File) → a.entries name ≡ only_file file
    → ChangesFile a b name change → b.entries name ≡ only_file (change file)
only_changed a b name file change is changes =
    let one : (a.entries name).now ≡ Some changes.file = changes.was in
    let other : (a.entries name).now ≡ Some file = ap (λ (e : Entry). e.now) is in
    let same : changes.file ≡ file = cc in
    changes.entry.here
    ∙ ap (λ (e : Entry). record e { now = Some (change changes.file) }) is
    ∙ ap (λ (f : File). only_file (change f)) same

cut_holds : (file : File) (lines : List ℕ) (len : ℕ) → length lines ≤ len → Holds file lines
    → Holds (cut_to len file) lines
cut_holds file lines len fits h =
    let over : length lines ≤ length file.shown =
    omega (arith, ap (λ (l : List ℕ). length l) h.shown, length-append lines h.behind) in
    record {
      behind = take (len - length lines) h.behind;
      shown = ap (λ (l : List ℕ). take len l) h.shown
          ∙ ap (λ (k : ℕ). take k (lines ++ h.behind))
          (let e : len ≡ length lines + (len - length lines) = omega arith in e)
          ∙ take-append-add lines h.behind (len - length lines);
      synced = omega (arith, h.synced);
      untouched = h.untouched;
    }

part_holds : (file : File) (lines octets : List ℕ) (n : ℕ) → Holds file lines
    → Holds (appended_in_part n octets file) lines
part_holds file lines octets n h = record {
  behind = h.behind ++ take n octets;
  shown = ap (λ (l : List ℕ). l ++ take n octets) h.shown ∙ append_assoc lines h.behind (take n octets);
  synced = h.synced;
  untouched = h.untouched;
}

append_holds : (file : File) (lines octets : List ℕ) → Holds file lines → Holds (appended octets file) lines
append_holds file lines octets h = record {
  behind = h.behind ++ octets;
  shown = ap (λ (l : List ℕ). l ++ octets) h.shown ∙ append_assoc lines h.behind octets;
  synced = h.synced;
  untouched = h.untouched;
}

settled_holds : (file : File) (lines : List ℕ) → Holds file lines → Holds (settled file.shown) lines
settled_holds file lines h = record {
  behind = h.behind;
  shown = h.shown;
  synced = omega (arith, ap (λ (l : List ℕ). length l) h.shown, length-append lines h.behind);
  untouched = refl;
}

-- ---- each call

pub unchanged_lines : (a b : State) (name lines : List ℕ) → IsUnchanged a b → HoldsLines a name lines
    → HoldsLines b name lines
unchanged_lines a b name lines same h =
    holds_lines b name lines h.file (same.entries name ∙ h.entry) (held a name lines h)

lost_lines : (a b : State) (name lines : List ℕ) → Loses a b → HoldsLines a name lines → HoldsLines b name lines
lost_lines a b name lines lost h =
    holds_lines b name lines h.file (lost.entries name ∙ h.entry) (held a name lines h)

changed_lines : (a b : State) (name lines : List ℕ) (change : File → File)
    → ((file : File) → Holds file lines → Holds (change file) lines) → ChangesFile a b name change
    → HoldsLines a name lines → HoldsLines b name lines
changed_lines a b name lines change keeps changes h =
    holds_lines b name lines (change h.file) (only_changed a b name h.file change h.entry changes)
    (keeps h.file (held a name lines h))

pub cut_lines : {T : Type 0} (a b : State) (name lines : List ℕ) (len : ℕ) (r : Result T DiskFault)
    → length lines ≤ len → Cuts a b name len r → HoldsLines a name lines → HoldsLines b name lines
cut_lines a b name lines len (Ok x) fits cuts h =
    changed_lines a b name lines (cut_to len) (λ file. cut_holds file lines len fits) cuts h
cut_lines a b name lines len (Err e) fits cuts h = elim cuts.done [
  | inl same ↦ unchanged_lines a b name lines same h
  | inr part ↦ changed_lines a b name lines (cut_to len) (λ file. cut_holds file lines len fits) part h
]

pub append_lines : {T : Type 0} (a b : State) (name lines octets : List ℕ) (r : Result T DiskFault)
    → Appends a b name octets r → HoldsLines a name lines → HoldsLines b name lines
append_lines a b name lines octets (Ok x) appends h =
    changed_lines a b name lines (appended octets) (λ file. append_holds file lines octets) appends h
append_lines a b name lines octets (Err e) appends h = elim appends.done [
  | inl same ↦ unchanged_lines a b name lines same h
  | inr part ↦ changed_lines a b name lines (appended_in_part part.0 octets)
      (λ file. part_holds file lines octets part.0) part.1 h
]

synced_holds : (lost : Bool) (file : File) (lines : List ℕ) → Holds file lines
    → Holds (if lost then file else settled file.shown) lines
synced_holds true file lines h = h
synced_holds false file lines h = settled_holds file lines h

pub sync_lines : {T : Type 0} (a b : State) (name lines : List ℕ) (r : Result T DiskFault)
    → Syncs a b name r → HoldsLines a name lines → HoldsLines b name lines
sync_lines a b name lines (Ok x) syncs h =
    changed_lines a b name lines (λ file. if a.lost then file else settled file.shown)
    (λ file. synced_holds a.lost file lines) syncs h
sync_lines a b name lines (Err e) syncs h = elim syncs.done [
  | inl same ↦ unchanged_lines a b name lines same h
  | inr lost ↦ lost_lines a b name lines lost h
]

-- ---- the end of the lines

up_to : (text : List ℕ) (n m : ℕ) → IsLinesEnd text n → IsLinesEnd text m → m < n → ⊥
up_to text n m one other below = elim one.before [
  | inl none ↦ omega arith
  | inr feed ↦
      let from : m ≤ n - 1 = omega arith in
      let within : n - 1 < length text = omega (arith, one.within) in
      other.behind (n - 1) from within feed
]

pub one_end : (text : List ℕ) (n m : ℕ) → IsLinesEnd text n → IsLinesEnd text m → n ≡ m
one_end text n m one other =
    let not_below : ¬ (n < m) = λ below. up_to text m n other one below in
    let not_above : ¬ (m < n) = λ above. up_to text n m one other above in
    omega (arith, not_below, not_above)

pub lines_within : (text : List ℕ) (n m : ℕ) → IsLinesEnd text n → IsLinesEnd text m → length (take n text) ≤ m
lines_within text n m one other =
    let same : n ≡ m = one_end text n m one other in omega (arith, length-take n text)
