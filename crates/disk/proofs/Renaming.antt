-- A file gets another name, in three steps.
use Rattle.std.proofs.Common.{◌≡◌, ◌≢◌, inl, ⊎_elim, ℕ, zero, suc, ◌<◌, List, [], ◌∷◌, length, get_or, set, take, refl}
use Rattle.std.proofs.Common.{sym, ◌∙◌, ap, subst, arith}
use Rattle.std.specs.Prelude.{Option, None, true, is_some, IsSome, IsNone, Result, Err}
use Rattle.std.specs.Option.{option_map}
use Rattle.std.proofs.lemmas.Bool.{cases_order}
use Rattle.std.proofs.lemmas.List.{get_or-set_other, get_or-set_same}
use Rattle.disk.specs.States.{Entry, retired}
use Rattle.disk.specs.Calls.{ChangesEntry, FailsAt, RenamesFile, Renames}
use Rattle.disk.specs.declared.fault.DiskFault.{DiskFault}
use Rattle.disk.specs.declared.fault.DiskFault.TheVariants.{Missing, Memory}
use Rattle.disk.specs.Memory.{file_of, entry_of, lookup, state_of, IsAbsent, IsFirst}
use Rattle.disk.specs.declared.memory_file.MemoryFile.{MemoryFile}
use Rattle.disk.specs.declared.memory.MemoryEntry.{MemoryEntry}
use Rattle.disk.proofs.FileChanges.{same_state}
use Rattle.disk.proofs.Lookups.{found, changed, unchanged, first-set}

absent_at : (i j : ℕ) (xs : List MemoryEntry) (d : MemoryEntry) (name : List ℕ) → i < j → i < length xs
    → IsAbsent name (take j xs) → (get_or xs i d).name ≢ name
absent_at i zero xs d name below within absent = absurd (omega (arith, below))
absent_at i (suc j) [] d name below within absent = absurd (omega (arith, within))
absent_at zero (suc j) (x ∷ xs) d name below within absent = absent.0
absent_at (suc i) (suc j) (x ∷ xs) d name below within absent = absent_at i j xs d name (omega (arith, below))
    (omega (arith, within)) absent.1

-- a name has one first entry
pub one_first : (xs : List MemoryEntry) (d : MemoryEntry) (name : List ℕ) (i j : ℕ) → IsFirst xs name i
    → IsFirst xs name j → i ≡ j
one_first xs d name i j first second = ⊎_elim (λ is. is)
    (λ either. ⊎_elim
    (λ below. absurd (absent_at i j xs d name below first.within second.before (first.here d)))
    (λ above. absurd (absent_at j i xs d name above second.within first.before (second.here d)))
    either)
    (cases_order i j)

-- there is no file under the source's name
pub no_source : (xs ys : List MemoryEntry) (from to : List ℕ) → ((name : List ℕ) → lookup ys name ≡ lookup xs name)
    → IsNone (lookup ys from).now
    → FailsAt (state_of xs) (state_of ys) from Missing ((from ≢ to) × RenamesFile (state_of xs) (state_of ys) from to)
no_source xs ys from to same none = record {
  done = inl (record { entries = same; lost = refl });
  missing = λ _. ap
      (λ (m : Entry). is_some m.now) (sym (same from)) ∙ none;
  not_exists = λ no. absurd (cc no);
}

-- the target has no room in its past
pub no_memory : (xs ys : List MemoryEntry) (from to : List ℕ) (j : ℕ) (f r : MemoryEntry)
    (result : Result (Unit {0}) DiskFault) → ((name : List ℕ) → lookup ys name ≡ lookup xs name) → IsFirst ys to j
    → f ≡ get_or ys j f → r.name ≡ f.name → entry_of r ≡ entry_of f
    → (fault : DiskFault) → result ≡ Err fault → fault ≡ Memory
    → Renames (state_of xs) (state_of (set ys j r)) from to result
no_memory xs ys from to j f r result same target at name is fault err memory =
    let stays = unchanged ys j f r target.within (name ∙ ap (λ (m : MemoryEntry). m.name) at) (is ∙ ap entry_of at) in
    subst (Renames (state_of xs) (state_of (set ys j r)) from to) (sym err)
    (record {
      done = inl (record { entries = λ n. stays.entries n ∙ same n; lost = refl });
      missing = λ no. absurd (cc (no, memory));
      not_exists = λ no. absurd (cc (no, memory));
    })

module _ (xs : List MemoryEntry) (from to : List ℕ) (i j : ℕ) (e f r t m : MemoryEntry) (file : Option MemoryFile)
    (source : IsFirst xs from i) (target : IsFirst xs to j) (apart : i ≢ j)
    (at_j : f ≡ get_or xs j f) (r_name : r.name ≡ f.name) (r_is : entry_of r ≡ retired (entry_of f))
    (at_e : e ≡ get_or (set xs j r) i e) (t_name : t.name ≡ e.name)
    (t_is : entry_of t ≡ record (entry_of e) { now = None; moved = true })
    (file_is : file ≡ e.now) (at_m : m ≡ get_or (set (set xs j r) i t) j m) where
  abbrev u : MemoryEntry
  u = record { name = m.name; now = file; past = m.past; moved = m.moved }

  at_i : e ≡ get_or xs i e
  at_i = at_e ∙ get_or-set_other xs j i r e apart

  from_is : lookup xs from ≡ entry_of e
  from_is = found xs from i e source ∙ ap entry_of (sym at_i)

  to_is : lookup xs to ≡ entry_of f
  to_is = found xs to j f target ∙ ap entry_of (sym at_j)

  pub names_differ : from ≢ to
  names_differ is = apart (one_first xs e to i j (subst (λ (n : List ℕ). IsFirst xs n i) is source) target)

  r_same : r.name ≡ (get_or xs j f).name
  r_same = r_name ∙ ap (λ (k : MemoryEntry). k.name) at_j

  one : ChangesEntry (state_of xs) (state_of (set xs j r)) to (entry_of r)
  one = changed xs to j f r target r_same

  t_same : t.name ≡ (get_or (set xs j r) i e).name
  t_same = t_name ∙ ap (λ (k : MemoryEntry). k.name) at_e

  two : ChangesEntry (state_of (set xs j r)) (state_of (set (set xs j r) i t)) from (entry_of t)
  two = changed (set xs j r) from i e t (first-set xs from i j f r source r_same) t_same

  target_then : IsFirst (set (set xs j r) i t) to j
  target_then = first-set (set xs j r) to j i e t (first-set xs to j j f r target r_same) t_same

  m_is : m ≡ r
  m_is = at_m ∙ get_or-set_other (set xs j r) i j t m (λ is. apart (sym is)) ∙ get_or-set_same xs j r m target.within

  three : ChangesEntry (state_of (set (set xs j r) i t)) (state_of (set (set (set xs j r) i t) j u)) to (entry_of u)
  three = changed (set (set xs j r) i t) to j m u target_then (ap (λ (k : MemoryEntry). k.name) at_m)

  entry_u : entry_of u ≡ record (retired (lookup xs to)) { now = (lookup xs from).now }
  entry_u =
      ap (λ (k : MemoryEntry). record (entry_of k) { now = option_map file_of file }) m_is
      ∙ ap (λ (o : Option MemoryFile). record (entry_of r) { now = option_map file_of o }) file_is
      ∙ ap (λ (k : Entry). record k { now = option_map file_of e.now }) r_is
      ∙ ap (λ (k : Entry). record (retired k) { now = option_map file_of e.now }) (sym to_is)
      ∙ ap (λ (k : Entry). record (retired (lookup xs to)) { now = k.now }) (sym from_is)

  renamed : IsSome (lookup xs from).now → RenamesFile (state_of xs) (state_of (set (set (set xs j r) i t) j u)) from to
  renamed some = record {
    some = some;
    source = three.others from names_differ ∙ two.here ∙ t_is ∙ ap
        (λ (k : Entry). record k { now = None; moved = true }) (sym from_is);
    target = three.here ∙ entry_u;
    others = λ other not_from not_to. three.others other not_to ∙ two.others other not_from ∙ one.others other not_to;
    lost = refl;
  }

  -- the same from a list that stands for the same
  pub renamed_from : (older : List MemoryEntry) → ((name : List ℕ) → lookup xs name ≡ lookup older name)
      → IsSome (lookup xs from).now → RenamesFile (state_of older) (state_of (set (set (set xs j r) i t) j u)) from to
  renamed_from older same some = subst (λ old. RenamesFile old (state_of (set (set (set xs j r) i t) j u)) from to)
      (same_state older xs same) (renamed some)
