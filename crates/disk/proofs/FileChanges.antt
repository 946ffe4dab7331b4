-- Calls on the entry of a name, as calls on the disk.
use Rattle.std.proofs.Common.{◌≡◌, ◌↔◌, inl, ℕ, Bool, false, List, [], get_or, set, refl, sym, ◌∙◌, ap, subst}
use Rattle.std.specs.Prelude.{Option, Some, None, is_some, IsTrue, IsSome, IsNone, IsSomeAnd, Result, Ok, Err}
use Rattle.std.specs.Prelude.{MatchResult}
use Rattle.std.specs.Option.{option_map}
use Rattle.disk.specs.Files.{File, settled}
use Rattle.disk.specs.States.{Entry, retired}
use Rattle.disk.specs.Calls.{ChangesEntry, ChangesFile, FailsAt, IsUnchanged, Creates, Removes, Gives, Reads, HasCause}
use Rattle.disk.specs.Memory.{file_of, entry_of, lookup, state_of, IsAbsent, IsFirst, ChangesFileOf, MakesFile}
use Rattle.disk.specs.Memory.{RemovesFileOf, NeverFails}
use Rattle.disk.specs.declared.fault.DiskFault.{DiskFault}
use Rattle.disk.specs.declared.fault.DiskFault.TheVariants.{Missing}
use Rattle.disk.specs.declared.memory_file.MemoryFile.{MemoryFile}
use Rattle.disk.specs.declared.memory.MemoryEntry.{MemoryEntry}
use Rattle.disk.proofs.Lookups.{lookup_none, found, changed, unchanged}

-- the entry of a name is changed to another, in terms of the disk
entry_changes : (xs : List MemoryEntry) (name : List ℕ) (i : ℕ) (d f : MemoryEntry) (change : Entry → Entry)
    → IsFirst xs name i → f.name ≡ (get_or xs i d).name
    → entry_of f ≡ change (entry_of (get_or xs i d))
    → ChangesEntry (state_of xs) (state_of (set xs i f)) name (change (lookup xs name))
entry_changes xs name i d f change first same is =
    let to = changed xs name i d f first same in
    record { here = to.here ∙ is ∙ ap change (sym (found xs name i d first)); others = to.others; lost = refl }

-- two lists that stand for the same
pub same_state : (xs ys : List MemoryEntry) → ((name : List ℕ) → lookup ys name ≡ lookup xs name)
    → state_of ys ≡ state_of xs
same_state xs ys same = λ i. record { entries = λ name. same name i; lost = false }

pub nothing_done : (xs : List MemoryEntry) → IsUnchanged (state_of xs) (state_of xs)
nothing_done xs = record { entries = λ name. refl; lost = refl }

pub no_file : (xs : List MemoryEntry) (name : List ℕ) → IsAbsent name xs → IsNone (lookup xs name).now
no_file xs name absent = ap (λ (e : Entry). is_some e.now) (lookup_none name xs absent)

pub missing : (xs : List MemoryEntry) (name : List ℕ) (part : Type 0) → IsAbsent name xs
    → FailsAt (state_of xs) (state_of xs) name Missing part
missing xs name part absent = record {
  done = inl (nothing_done xs);
  missing = λ _. no_file xs name absent;
  not_exists = λ no. absurd (cc no);
}

pub has_no_cause : {T : Type 0} (result : Result T DiskFault) → NeverFails result → HasCause ⊥ ⊥ result
has_no_cause result never = record { stays = λ none. none; failed = never.not_failed; full = never.not_full }

is_some-option_map : (o : Option MemoryFile) → is_some (option_map file_of o) ≡ is_some o
is_some-option_map None = refl
is_some-option_map (Some file) = refl

module _ (xs : List MemoryEntry) (name : List ℕ) (i : ℕ) (e : MemoryEntry) (first : IsFirst xs name i)
    (at : e ≡ get_or xs i e) where
  pub stands : lookup xs name ≡ entry_of e
  stands = found xs name i e first ∙ ap entry_of (sym at)

  pub some_file : is_some (lookup xs name).now ≡ is_some e.now
  some_file = ap (λ (m : Entry). is_some m.now) stands ∙ is_some-option_map e.now

  pub has_file : (answer : Bool) → answer ≡ is_some e.now → IsTrue answer ↔ IsSome (lookup xs name).now
  has_file answer is =
      let same : is_some (lookup xs name).now ≡ answer = some_file ∙ sym is in
      (λ yes. same ∙ yes, λ some. sym same ∙ some)

  pub read_file : (file : MemoryFile) (from : ℕ) (buf : List ℕ) (n : ℕ) → e.now ≡ Some file
      → Gives (file_of file) from buf n → Reads (state_of xs) (state_of xs) name from buf (Ok n)
  read_file file from buf n is gives = record {
    same = nothing_done xs;
    gives = λ _.
        let here : (lookup xs name).now ≡ Some (file_of file) = ap (λ (m : Entry). m.now) stands ∙ ap
        (option_map file_of) is in
        subst (λ (o : Option File). IsSomeAnd o (λ f. Gives f from buf n)) (sym here) gives;
    missing = λ no. absurd (cc no);
    not_exists = λ no. absurd (cc no);
  }

  pub read_none : (from : ℕ) (buf : List ℕ) → e.now ≡ None
      → Reads (state_of xs) (state_of xs) name from buf (Err Missing)
  read_none from buf is = record {
    same = nothing_done xs;
    gives = λ _. tt;
    missing = λ _. ap (λ (m : Entry). is_some m.now) stands ∙ ap
        (λ (o : Option MemoryFile). is_some (option_map file_of o)) is;
    not_exists = λ no. absurd (cc no);
  }

pub read_missing : (xs : List MemoryEntry) (name : List ℕ) (from : ℕ) (buf : List ℕ) → IsAbsent name xs
    → Reads (state_of xs) (state_of xs) name from buf (Err Missing)
read_missing xs name from buf absent = record {
  same = nothing_done xs;
  gives = λ _. tt;
  missing = λ _. no_file xs name absent;
  not_exists = λ no. absurd (cc no);
}

module _ (xs : List MemoryEntry) (name : List ℕ) (i : ℕ) (e f : MemoryEntry) (first : IsFirst xs name i)
    (at : e ≡ get_or xs i e) (same_name : f.name ≡ e.name) where
  was : lookup xs name ≡ entry_of e
  was = stands xs name i e first at

  same : f.name ≡ (get_or xs i e).name
  same = same_name ∙ ap (λ (m : MemoryEntry). m.name) at

  becomes : (change : Entry → Entry) → entry_of f ≡ change (entry_of e)
      → ChangesEntry (state_of xs) (state_of (set xs i f)) name (change (lookup xs name))
  becomes change is = entry_changes xs name i e f change first same
      (is ∙ ap (λ (m : MemoryEntry). change (entry_of m)) at)

  stays : entry_of f ≡ entry_of e → IsUnchanged (state_of xs) (state_of (set xs i f))
  stays is = unchanged xs i e f first.within same (is ∙ ap entry_of at)

  pub file_changes : {T : Type 0} (change : File → File) (part : Type 0) (result : Result T DiskFault)
      → ChangesFileOf (entry_of e) (entry_of f) change result
      → MatchResult result (λ _. ChangesFile (state_of xs) (state_of (set xs i f)) name change)
      (λ fault. FailsAt (state_of xs) (state_of (set xs i f)) name fault part)
  file_changes change part (Ok x) of = record {
    file = of.0;
    was = ap (λ (m : Entry). m.now) was ∙ of.1;
    entry = becomes (λ m. record m { now = Some (change of.0) }) of.2;
  }
  file_changes change part (Err fault) of = record
      { done = inl (stays of.0); missing = λ is. ap (λ (m : Entry). is_some m.now) was ∙ of.1 is; not_exists = of.2 }

  pub file_made : {T : Type 0} (result : Result T DiskFault) → MakesFile (entry_of e) (entry_of f) result
      → Creates (state_of xs) (state_of (set xs i f)) name result
  file_made (Ok x) of = record {
    none = ap (λ (m : Entry). m.now) was ∙ of.0;
    entry = becomes (λ m. record (retired m) { now = Some (settled []) }) of.1;
  }
  file_made (Err fault) of = (inl (stays of.0), λ is. ap (λ (m : Entry). is_some m.now) was ∙ of.1 is, of.2)

  pub file_removed : {T : Type 0} (result : Result T DiskFault) → RemovesFileOf (entry_of e) (entry_of f) result
      → Removes (state_of xs) (state_of (set xs i f)) name result
  file_removed (Ok x) of = record {
    some = ap (λ (m : Entry). is_some m.now) was ∙ of.0;
    entry = becomes retired of.1;
  }
  file_removed (Err fault) of = record {
    done = inl (stays of.0);
    missing = λ is. ap (λ (m : Entry). is_some m.now) was ∙ of.1 is;
    not_exists = of.2;
  }

-- the file of an entry is changed
pub of_file : (e : MemoryEntry) (file changed : MemoryFile) (change : File → File) → e.now ≡ Some file
    → file_of changed ≡ change (file_of file)
    → (f : File) × ((entry_of e).now ≡ Some f) × (entry_of (record e { now = Some changed }) ≡ record (entry_of e)
    { now = Some (change f) })
of_file e file changed change was is = (
  file_of file,
  ap (option_map file_of) was,
  ap
      (λ (f : File). record (entry_of e) { now = Some f }) is,
)
