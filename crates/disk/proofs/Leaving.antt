-- What a crash leaves of the disk in memory.
use Rattle.std.proofs.Common.{◌≡◌, ◌≢◌, inl, ℕ, zero, suc, ◌<◌, Bool, true, false, if◌then◌else◌, List, [], ◌∷◌, length}
use Rattle.std.proofs.Common.{get_or, set, refl, sym, subst, arith}
use Rattle.std.specs.Prelude.{bytes_eq}
use Rattle.disk.specs.Files.{IsNoneOf}
use Rattle.disk.specs.States.{Entry}
use Rattle.disk.specs.Memory.{entry_of, no_entry, lookup, IsLeft, AreLeft}
use Rattle.disk.specs.declared.memory.MemoryEntry.{MemoryEntry}

abbrev Entries : Type 0
Entries = List MemoryEntry

-- the first k entries are what a crash leaves of them
abbrev pub AreLeftTo : ℕ → Entries → Entries → Type 0
AreLeftTo zero old new = new ≡ old
AreLeftTo (suc k) [] new = new ≡ []
AreLeftTo (suc k) (e ∷ old) [] = ⊥
AreLeftTo (suc k) (e ∷ old) (f ∷ new) = (f.name ≡ e.name) × IsLeft (entry_of e) (entry_of f) × AreLeftTo k old new

pub left_more : (k : ℕ) (old new : Entries) (f d : MemoryEntry) → k < length old → AreLeftTo k old new
    → f.name ≡ (get_or new k d).name → IsLeft (entry_of (get_or new k d)) (entry_of f)
    → AreLeftTo (suc k) old (set new k f)
left_more k [] new f d within are same is = absurd (omega (arith, within))
left_more zero (e ∷ old) new f d within are same is =
    let same_e : f.name ≡ e.name = subst (λ (l : Entries). f.name ≡ (get_or l zero d).name) are same in
    let is_e : IsLeft (entry_of e) (entry_of f) = subst
    (λ (l : Entries). IsLeft (entry_of (get_or l zero d)) (entry_of f)) are is in
    subst (λ (l : Entries). AreLeftTo (suc zero) (e ∷ old) (set l zero f)) (sym are) (same_e, is_e, refl)
left_more (suc k) (e ∷ old) [] f d within are same is = absurd are
left_more (suc k) (e ∷ old) (g ∷ new) f d within are same is
    = (are.0, are.1, left_more k old new f d (omega (arith, within)) are.2 same is)

pub left_to_end : (k : ℕ) (old new : Entries) → k ≡ length old → AreLeftTo k old new → AreLeft old new
left_to_end zero [] new end are = are
left_to_end zero (e ∷ old) new end are = absurd (omega (arith, end))
left_to_end (suc k) [] new end are = are
left_to_end (suc k) (e ∷ old) [] end are = absurd are
left_to_end (suc k) (e ∷ old) (f ∷ new) end are = (are.0, are.1, left_to_end k old new (omega (arith, end)) are.2)

pub lookup_left : (old new : Entries) → AreLeft old new → (name : List ℕ) → IsLeft (lookup old name) (lookup new name)
lookup_left [] new are name = subst (λ (l : Entries). IsLeft no_entry (lookup l name)) (sym are)
    (record { left = inl refl; settled_is = refl })
lookup_left (e ∷ old) [] are name = absurd are
lookup_left (e ∷ old) (f ∷ new) are name =
    subst (λ (m : List ℕ). IsLeft (if bytes_eq e.name name then entry_of e else lookup old name)
    (if bytes_eq m name then entry_of f else lookup new name)) (sym are.0)
    (both (bytes_eq e.name name) (entry_of f) (lookup new name) (entry_of e) (lookup old name) are.1
    (lookup_left old new are.2 name))
  where
    both : (b : Bool) (x y u v : Entry) → IsLeft u x → IsLeft v y → IsLeft (if b then u else v) (if b then x else y)
    both true x y u v is_x is_y = is_x
    both false x y u v is_x is_y = is_y

-- none of the places is one of them
pub none_at : (places : List ℕ) (n i d : ℕ) → n < length places → IsNoneOf places i → i ≢ get_or places n d
none_at [] n i d within none = absurd (omega (arith, within))
none_at (p ∷ places) zero i d within none = none.0
none_at (p ∷ places) (suc n) i d within none = none_at places n i d (omega (arith, within)) none.1
