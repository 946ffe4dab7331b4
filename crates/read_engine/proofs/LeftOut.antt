-- Names that are left out.
use Rattle.std.proofs.Common.{◌≡◌, ℕ, Bool, true, false, List, [], ◌∷◌, Option, None, inl, inr, refl, sym, subst, ◌∙◌, arith}
use Rattle.std.specs.Prelude.{Contains, IsSome, if◌then◌else◌, not, filter}
use Rattle.std.proofs.lemmas.List.Elements.{Contains-append_cases, Contains-append_left, Contains-append_right, Contains-push, Contains-push_cases}
use Rattle.disk.specs.States.{Files}
use Rattle.store_reading.specs.Folders.{AreNamesOf}
use Rattle.read_engine.specs.LeftOut.{files_without, is_among}

-- ---- the elements that pass a test

none_of : {X : Type 0} (x : X) → Contains [] x → ⊥
none_of x (k, within, is) = absurd (omega (arith, within))

passed_had : {X : Type 0} (p : X → Bool) (xs : List X) (x : X) → Contains (filter p xs) x → Contains xs x × (p x ≡ true)
passed_had p [] x has = absurd (none_of x has)
passed_had p (y ∷ ys) x has =
    at (λ more. let r = passed_had p ys x more in (Contains-append_right (y ∷ []) ys x r.0, r.1)) (p y) refl has
  where
    at : (Contains (filter p ys) x → Contains (y ∷ ys) x × (p x ≡ true)) → (b : Bool) → p y ≡ b
        → Contains (if b then y ∷ filter p ys else filter p ys) x → Contains (y ∷ ys) x × (p x ≡ true)
    at later true is h = elim (Contains-append_cases (y ∷ []) (filter p ys) x h) [
      | inl first ↦ elim (Contains-push_cases [] y x first) [
        | inl none ↦ absurd (none_of x none)
        | inr same ↦ (subst (Contains (y ∷ ys)) same (Contains-append_left (y ∷ []) ys y (Contains-push [] y)), subst (λ z. p z ≡ true) same is)
      ]
      | inr more ↦ later more
    ]
    at later false is h = later h

passed_has : {X : Type 0} (p : X → Bool) (xs : List X) (x : X) → Contains xs x → p x ≡ true → Contains (filter p xs) x
passed_has p [] x has passes = absurd (none_of x has)
passed_has p (y ∷ ys) x has passes = at (λ more. passed_has p ys x more passes) (p y) refl
  where
    at : (Contains ys x → Contains (filter p ys) x) → (b : Bool) → p y ≡ b
        → Contains (if b then y ∷ filter p ys else filter p ys) x
    at later true is = elim (Contains-append_cases (y ∷ []) ys x has) [
      | inl first ↦ elim (Contains-push_cases [] y x first) [
        | inl none ↦ absurd (none_of x none)
        | inr same ↦ subst (Contains (y ∷ filter p ys)) same (Contains-append_left (y ∷ []) (filter p ys) y (Contains-push [] y))
      ]
      | inr more ↦ Contains-append_right (y ∷ []) (filter p ys) x (later more)
    ]
    at later false is = elim (Contains-append_cases (y ∷ []) ys x has) [
      | inl first ↦ elim (Contains-push_cases [] y x first) [
        | inl none ↦ absurd (none_of x none)
        | inr same ↦ let no : false ≡ true = sym is ∙ subst (λ z. p z ≡ true) (sym same) passes in absurd cc
      ]
      | inr more ↦ later more
    ]

-- ---- the names of the files that are left

left_there : (b : Bool) (o : Option (List ℕ)) → IsSome (if b then None else o) → (not b ≡ true) × IsSome o
left_there true o some = let no : false ≡ true = some in absurd cc
left_there false o some = (refl, some)

there_left : (b : Bool) (o : Option (List ℕ)) → not b ≡ true → IsSome o → IsSome (if b then None else o)
there_left true o is some = let no : false ≡ true = is in absurd cc
there_left false o is some = some

-- of the names of a folder, those that are not left out are the names of the others
pub names_without : (left : List (List ℕ)) (files : Files) (names kept : List (List ℕ)) → AreNamesOf files names
    → kept ≡ filter (λ name. not (is_among left name)) names → AreNamesOf (files_without left files) kept
names_without left files names kept of is name = rw is (
  (λ has. let r = passed_had (λ n. not (is_among left n)) names name has in
      there_left (is_among left name) (files name) r.1 ((of name).0 r.0)),
  (λ some. let r = left_there (is_among left name) (files name) some in
      passed_has (λ n. not (is_among left n)) names name ((of name).1 r.1) r.0),
)

-- a file that is left is there
pub there_of : (left : List (List ℕ)) (files : Files) (name : List ℕ) → IsSome (files_without left files name)
    → IsSome (files name)
there_of left files name some = (left_there (is_among left name) (files name) some).1
