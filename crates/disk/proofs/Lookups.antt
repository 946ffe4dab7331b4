-- The first entry of a name.
use Rattle.std.proofs.Common.{◌≡◌, ◌≢◌, ⊎_elim, ℕ, zero, suc, ◌<◌, ◌+◌, Bool, true, false, if◌then◌else◌, List, [], ◌∷◌}
use Rattle.std.proofs.Common.{◌++◌, length, get_or, set, take, drop, refl, sym, ◌∙◌, ap, subst, arith}
use Rattle.std.specs.Prelude.{bytes_eq}
use Rattle.std.proofs.lemmas.Bool.{cases_eq, cases_Bool}
use Rattle.std.proofs.lemmas.List.{length-set, get_or-set_same, get_or-set_other, set-get_or, set_split, take_more}
use Rattle.std.proofs.lemmas.Slice.Eq.{bytes_eq-Decides}
use Rattle.disk.specs.States.{Entry, kept}
use Rattle.disk.specs.Calls.{ChangesEntry, IsUnchanged}
use Rattle.disk.specs.Memory.{entry_of, no_entry, lookup, state_of, IsAbsent, IsFirst, AreKept}
use Rattle.disk.specs.declared.memory.MemoryEntry.{MemoryEntry}

abbrev Entries : Type 0
Entries = List MemoryEntry

pub equal : (xs ys : List ℕ) → xs ≡ ys → bytes_eq xs ys ≡ true
equal xs ys is = (bytes_eq-Decides xs ys).1 is

pub differ : (xs ys : List ℕ) → xs ≢ ys → bytes_eq xs ys ≡ false
differ xs ys ne = ⊎_elim (λ yes. absurd (ne ((bytes_eq-Decides xs ys).0 yes))) (λ no. no) (cases_Bool (bytes_eq xs ys))

pub lookup-here : (name : List ℕ) (e : MemoryEntry) (q : Entries) → e.name ≡ name → lookup (e ∷ q) name ≡ entry_of e
lookup-here name e q is = ap (λ (b : Bool). if b then entry_of e else lookup q name) (equal e.name name is)

pub lookup-there : (name : List ℕ) (e : MemoryEntry) (q : Entries) → e.name ≢ name → lookup (e ∷ q) name ≡ lookup q name
lookup-there name e q ne = ap (λ (b : Bool). if b then entry_of e else lookup q name) (differ e.name name ne)

pub lookup-absent : (name : List ℕ) (p q : Entries) → IsAbsent name p → lookup (p ++ q) name ≡ lookup q name
lookup-absent name [] q absent = refl
lookup-absent name (e ∷ p) q absent = lookup-there name e (p ++ q) absent.0 ∙ lookup-absent name p q absent.1

pub lookup_none : (name : List ℕ) (xs : Entries) → IsAbsent name xs → lookup xs name ≡ no_entry
lookup_none name [] absent = refl
lookup_none name (e ∷ xs) absent = lookup-there name e xs absent.0 ∙ lookup_none name xs absent.1

-- another entry in a place, for a name that neither has
lookup_other : (p q : Entries) (e f : MemoryEntry) (other : List ℕ) → e.name ≢ other → f.name ≢ other
    → lookup (p ++ e ∷ q) other ≡ lookup (p ++ f ∷ q) other
lookup_other [] q e f other ne nf = lookup-there other e q ne ∙ sym (lookup-there other f q nf)
lookup_other (x ∷ p) q e f other ne nf = ap (λ (r : Entry). if bytes_eq x.name other then entry_of x else r)
    (lookup_other p q e f other ne nf)

-- another entry in a place, which stands for the same
lookup_same : (p q : Entries) (e f : MemoryEntry) (name : List ℕ) → f.name ≡ e.name → entry_of f ≡ entry_of e
    → lookup (p ++ f ∷ q) name ≡ lookup (p ++ e ∷ q) name
lookup_same [] q e f name same is =
    ap (λ (m : List ℕ). if bytes_eq m name then entry_of f else lookup q name) same
    ∙ ap (λ (r : Entry). if bytes_eq e.name name then r else lookup q name) is
lookup_same (x ∷ p) q e f name same is = ap (λ (r : Entry). if bytes_eq x.name name then entry_of x else r)
    (lookup_same p q e f name same is)

-- one entry more, of no file
pub lookup_empty : (xs : Entries) (e : MemoryEntry) (name : List ℕ) → entry_of e ≡ no_entry
    → lookup (xs ++ e ∷ []) name ≡ lookup xs name
lookup_empty [] e name is = ap (λ (r : Entry). if bytes_eq e.name name then r else no_entry) is ∙ both
    (bytes_eq e.name name)
  where
    both : (b : Bool) → (if b then no_entry else no_entry) ≡ no_entry
    both true = refl
    both false = refl
lookup_empty (x ∷ xs) e name is = ap (λ (r : Entry). if bytes_eq x.name name then entry_of x else r)
    (lookup_empty xs e name is)

parts : (xs : Entries) (i : ℕ) (d : MemoryEntry) → i < length xs → xs ≡ take i xs ++ get_or xs i d ∷ drop (suc i) xs
parts xs i d within = sym (set-get_or xs i d) ∙ set_split xs i (get_or xs i d) within

pub found : (xs : Entries) (name : List ℕ) (i : ℕ) (d : MemoryEntry) → IsFirst xs name i
    → lookup xs name ≡ entry_of (get_or xs i d)
found xs name i d first =
    ap (λ (l : Entries). lookup l name) (parts xs i d first.within)
    ∙ lookup-absent name (take i xs) (get_or xs i d ∷ drop (suc i) xs) first.before
    ∙ lookup-here name (get_or xs i d) (drop (suc i) xs) (first.here d)

-- the entry of a name is put in the place of its first
pub changed : (xs : Entries) (name : List ℕ) (i : ℕ) (d f : MemoryEntry) → IsFirst xs name i
    → f.name ≡ (get_or xs i d).name → ChangesEntry (state_of xs) (state_of (set xs i f)) name (entry_of f)
changed xs name i d f first same = record {
  here =
      ap (λ (l : Entries). lookup l name) (set_split xs i f first.within)
      ∙ lookup-absent name (take i xs) (f ∷ drop (suc i) xs) first.before
      ∙ lookup-here name f (drop (suc i) xs) (same ∙ first.here d);
  others = λ other ne.
      ap (λ (l : Entries). lookup l other) (set_split xs i f first.within)
      ∙ lookup_other (take i xs) (drop (suc i) xs) f (get_or xs i d) other (λ is. ne (sym is ∙ same ∙ first.here d))
      (λ is. ne (sym is ∙ first.here d))
      ∙ ap (λ (l : Entries). lookup l other) (sym (parts xs i d first.within));
  lost = refl;
}

pub unchanged : (xs : Entries) (i : ℕ) (d f : MemoryEntry) → i < length xs → f.name ≡ (get_or xs i d).name
    → entry_of f ≡ entry_of (get_or xs i d) → IsUnchanged (state_of xs) (state_of (set xs i f))
unchanged xs i d f within same is = record {
  entries = λ name.
      ap (λ (l : Entries). lookup l name) (set_split xs i f within)
      ∙ lookup_same (take i xs) (drop (suc i) xs) (get_or xs i d) f name same is
      ∙ ap (λ (l : Entries). lookup l name) (sym (parts xs i d within));
  lost = refl;
}

pub absent_push : (name : List ℕ) (xs : Entries) (e : MemoryEntry) → IsAbsent name xs → e.name ≢ name
    → IsAbsent name (xs ++ e ∷ [])
absent_push name [] e absent ne = (ne, tt)
absent_push name (x ∷ xs) e absent ne = (absent.0, absent_push name xs e absent.1 ne)

absent_set : (i k : ℕ) (xs : Entries) (f d : MemoryEntry) (name : List ℕ) → f.name ≡ (get_or xs k d).name
    → IsAbsent name (take i xs) → IsAbsent name (take i (set xs k f))
absent_set zero k xs f d name same absent = absent
absent_set (suc i) k [] f d name same absent = absent
absent_set (suc i) zero (e ∷ xs) f d name same absent = (λ is. absent.0 (sym same ∙ is), absent.1)
absent_set (suc i) (suc k) (e ∷ xs) f d name same absent = (absent.0, absent_set i k xs f d name same absent.1)

-- an entry of the same name in some place leaves each first entry the first
pub first-set : (xs : Entries) (name : List ℕ) (i k : ℕ) (d f : MemoryEntry) → IsFirst xs name i
    → f.name ≡ (get_or xs k d).name → IsFirst (set xs k f) name i
first-set xs name i k d f first same = record {
  within = omega (arith, first.within, length-set xs k f);
  before = absent_set i k xs f d name same first.before;
  here = λ e. ⊎_elim
      (λ is. let at : k < length xs = omega (arith, is, first.within) in
      subst (λ (n : ℕ). (get_or (set xs k f) n e).name ≡ name) (sym is)
      (ap (λ (m : MemoryEntry). m.name) (get_or-set_same xs k f e at) ∙ same ∙ subst
      (λ (n : ℕ). (get_or xs n d).name ≡ name) is (first.here d)))
      (λ ne. ap (λ (m : MemoryEntry). m.name) (get_or-set_other xs k i f e ne) ∙ first.here e)
      (cases_eq i k);
}

-- the first k entries were brought to the disk
abbrev pub AreKeptTo : ℕ → Entries → Entries → Type 0
AreKeptTo zero old new = new ≡ old
AreKeptTo (suc k) [] new = new ≡ []
AreKeptTo (suc k) (e ∷ old) [] = ⊥
AreKeptTo (suc k) (e ∷ old) (f ∷ new) = (f.name ≡ e.name) × (entry_of f ≡ kept (entry_of e)) × AreKeptTo k old new

pub kept_more : (k : ℕ) (old new : Entries) (f d : MemoryEntry) → k < length old → AreKeptTo k old new
    → f.name ≡ (get_or new k d).name → entry_of f ≡ kept (entry_of (get_or new k d))
    → AreKeptTo (suc k) old (set new k f)
kept_more k [] new f d within are same is = absurd (omega (arith, within))
kept_more zero (e ∷ old) new f d within are same is =
    let same_e : f.name ≡ e.name = subst (λ (l : Entries). f.name ≡ (get_or l zero d).name) are same in
    let is_e : entry_of f ≡ kept (entry_of e) = subst (λ (l : Entries). entry_of f ≡ kept (entry_of (get_or l zero d)))
    are is in
    subst (λ (l : Entries). AreKeptTo (suc zero) (e ∷ old) (set l zero f)) (sym are) (same_e, is_e, refl)
kept_more (suc k) (e ∷ old) [] f d within are same is = absurd are
kept_more (suc k) (e ∷ old) (g ∷ new) f d within are same is
    = (are.0, are.1, kept_more k old new f d (omega (arith, within)) are.2 same is)

pub kept_to_end : (k : ℕ) (old new : Entries) → k ≡ length old → AreKeptTo k old new → AreKept old new
kept_to_end zero [] new end are = are
kept_to_end zero (e ∷ old) new end are = absurd (omega (arith, end))
kept_to_end (suc k) [] new end are = are
kept_to_end (suc k) (e ∷ old) [] end are = absurd are
kept_to_end (suc k) (e ∷ old) (f ∷ new) end are = (are.0, are.1, kept_to_end k old new (omega (arith, end)) are.2)

pub lookup_kept : (old new : Entries) → AreKept old new → (name : List ℕ) → lookup new name ≡ kept (lookup old name)
lookup_kept [] new are name = ap (λ (l : Entries). lookup l name) are
lookup_kept (e ∷ old) [] are name = absurd are
lookup_kept (e ∷ old) (f ∷ new) are name =
    ap (λ (m : List ℕ). if bytes_eq m name then entry_of f else lookup new name) are.0
    ∙ both (bytes_eq e.name name) (entry_of f) (lookup new name) (entry_of e) (lookup old name) are.1
    (lookup_kept old new are.2 name)
  where
    both : (b : Bool) (x y u v : Entry) → x ≡ kept u → y ≡ kept v → (if b then x else y) ≡ kept (if b then u else v)
    both true x y u v is_x is_y = is_x
    both false x y u v is_x is_y = is_y

-- one entry more that has another name
pub position_more : (xs : Entries) (i : ℕ) (e : MemoryEntry) (name : List ℕ) → i < length xs → e ≡ get_or xs i e
    → IsAbsent name (take i xs) → e.name ≢ name → IsAbsent name (take (i + 1) xs)
position_more xs i e name within at absent ne =
    subst (IsAbsent name) (sym (take_more xs i e within ∙ ap (λ (m : MemoryEntry). take i xs ++ m ∷ []) (sym at)))
    (absent_push name (take i xs) e absent ne)
