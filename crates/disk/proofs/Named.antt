-- The names that have a file.
use Rattle.std.proofs.Common.{◌≡◌, ◌↔◌, ◌⊎◌, inl, inr, ⊎_elim, ℕ, ◌+◌, ◌<◌, ◌≤◌, Bool, if◌then◌else◌, List, [], ◌∷◌}
use Rattle.std.proofs.Common.{◌++◌, length, get_or, take, sym, ◌∙◌, ap, subst}
use Rattle.std.specs.Prelude.{Contains, IsSome, is_some, bytes_eq}
use Rattle.std.proofs.lemmas.Bool.{cases_Bool}
use Rattle.std.proofs.lemmas.Slice.Eq.{bytes_eq-Decides}
use Rattle.std.proofs.lemmas.List.{take_more, take_all}
use Rattle.std.proofs.lemmas.List.Elements.{Contains-push, Contains-push_cases, Contains-append_left}
use Rattle.disk.specs.Memory.{lookup, entry_of}
use Rattle.disk.specs.declared.memory.MemoryEntry.{MemoryEntry}

-- some entry has the name
abbrev pub HasName : List MemoryEntry → List ℕ → Type 0
HasName [] name = ⊥
HasName (e ∷ entries) name = (e.name ≡ name) ⊎ HasName entries name

-- of these entries, the names that have a file among all
abbrev pub AreNamesOf : List MemoryEntry → List MemoryEntry → List (List ℕ) → Type 0
AreNamesOf all entries names = (name : List ℕ) → Contains names name ↔
    (HasName entries name × IsSome (lookup all name).now)

pub has_name : (xs : List MemoryEntry) (name : List ℕ) → IsSome (lookup xs name).now → HasName xs name
has_name [] name some = absurd (cc some)
has_name (e ∷ xs) name some = ⊎_elim
    (λ yes. inl ((bytes_eq-Decides e.name name).0 yes))
    (λ no. inr (has_name xs name (sym (ap (λ (b : Bool). is_some (if b then entry_of e else lookup xs name).now) no) ∙
    some)))
    (cases_Bool (bytes_eq e.name name))

has_before : (xs : List MemoryEntry) (e : MemoryEntry) (name : List ℕ) → HasName xs name → HasName (xs ++ e ∷ []) name
has_before [] e name has = absurd has
has_before (x ∷ xs) e name (inl is) = inl is
has_before (x ∷ xs) e name (inr has) = inr (has_before xs e name has)

has_last : (xs : List MemoryEntry) (e : MemoryEntry) (name : List ℕ) → e.name ≡ name → HasName (xs ++ e ∷ []) name
has_last [] e name is = inl is
has_last (x ∷ xs) e name is = inr (has_last xs e name is)

has_cases : (xs : List MemoryEntry) (e : MemoryEntry) (name : List ℕ) → HasName (xs ++ e ∷ []) name
    → HasName xs name ⊎ (e.name ≡ name)
has_cases [] e name (inl is) = inr is
has_cases [] e name (inr none) = absurd none
has_cases (x ∷ xs) e name (inl is) = inl (inl is)
has_cases (x ∷ xs) e name (inr has) = ⊎_elim (λ before. inl (inr before)) (λ is. inr is) (has_cases xs e name has)

module _ (all xs : List MemoryEntry) (e : MemoryEntry) (names : List (List ℕ)) (are : AreNamesOf all xs names) where
  pub one_more : IsSome (lookup all e.name).now → AreNamesOf all (xs ++ e ∷ []) (names ++ e.name ∷ [])
  one_more some = λ name. (
    λ contains. ⊎_elim
        (λ before. let was = (are name).0 before in (has_before xs e name was.0, was.1))
        (λ is. (has_last xs e name is, subst (λ (n : List ℕ). IsSome (lookup all n).now) is some))
        (Contains-push_cases names e.name name contains),
    λ has. ⊎_elim
        (λ before. Contains-append_left names (e.name ∷ []) name ((are name).1 (before, has.1)))
        (λ is. subst (Contains (names ++ e.name ∷ [])) is (Contains-push names e.name))
        (has_cases xs e name has.0),
  )

  pub no_more : (IsSome (lookup all e.name).now → ⊥) → AreNamesOf all (xs ++ e ∷ []) names
  no_more none = λ name. (
    λ contains. let was = (are name).0 contains in (has_before xs e name was.0, was.1),
    λ has. ⊎_elim
        (λ before. (are name).1 (before, has.1))
        (λ is. absurd (none (subst (λ (n : List ℕ). IsSome (lookup all n).now) (sym is) has.1)))
        (has_cases xs e name has.0),
  )

pub taken : (all : List MemoryEntry) (i : ℕ) (e : MemoryEntry) (names : List (List ℕ)) → i < length all
    → e ≡ get_or all i e → AreNamesOf all (take i all ++ e ∷ []) names → AreNamesOf all (take (i + 1) all) names
taken all i e names within at are =
    subst (λ (l : List MemoryEntry). AreNamesOf all l names)
    (sym (take_more all i e within ∙ ap (λ (m : MemoryEntry). take i all ++ m ∷ []) (sym at))) are

pub all_named : (all : List MemoryEntry) (i : ℕ) (names : List (List ℕ)) → length all ≤ i
    → AreNamesOf all (take i all) names → (name : List ℕ) → Contains names name ↔ IsSome (lookup all name).now
all_named all i names past are name =
    let whole = subst (λ (l : List MemoryEntry). AreNamesOf all l names) (take_all i all past) are in
    (λ contains. ((whole name).0 contains).1, λ some. (whole name).1 (has_name all name some, some))
