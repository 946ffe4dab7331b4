-- The damaged files of a folder, of which some were left out.
use Rattle.std.proofs.Common.{◌≡◌, ◌⊎◌, Bool, true, false, ℕ, List, [], ◌∷◌, Option, None, Some, inl, inr, refl, sym, subst, ◌∙◌, arith}
use Rattle.std.specs.Prelude.{Contains, IsSome, IsSomeAnd, if◌then◌else◌, nat_eq}
use Rattle.std.specs.Cmp.Lexicographic.{pointwise}
use Rattle.std.proofs.lemmas.Cmp.{nat_list_eq_equiv}
use Rattle.std.proofs.lemmas.Bool.Decides.{Decides-eqb}
use Rattle.std.proofs.lemmas.Slice.Eq.{slice_eq-Decides}
use Rattle.std.proofs.lemmas.Map.Views.{Contains-from_any, list_any-from_Contains}
use Rattle.std.proofs.lemmas.List.Elements.{Contains-append_cases, Contains-push_cases}
use Rattle.disk.specs.States.{Files}
use Rattle.archive_sets.specs.declared.range.InRange.{InRange}
use Rattle.store_reading.specs.Folders.{AreNamesOf}
use Rattle.store_upkeep.specs.Damages.{AreAsTold, IsWholeOrListed, names_of}
use Rattle.store_upkeep.specs.declared.damage.DamagedFile.{DamagedFile}
use Rattle.read_engine.specs.LeftOut.{files_without, is_among}
use Rattle.read_engine.specs.Partial.{AreDamagedIn, IsOutside, MayBeInside}

-- ---- a file that is left

left_some : (b : Bool) (o : Option (List ℕ)) (P : List ℕ → Type 0) → IsSomeAnd (if b then None else o) P
    → (b ≡ false) × IsSomeAnd o P
left_some true o P some = absurd some
left_some false o P some = (refl, some)

some_there : (o : Option (List ℕ)) (P : List ℕ → Type 0) → IsSomeAnd o P → IsSome o
some_there None P some = absurd some
some_there (Some file) P some = refl

-- ---- those that are told

told_left : (left : List (List ℕ)) (files : Files) (ds : List DamagedFile) → AreAsTold (files_without left files) ds
    → AreAsTold files ds
told_left left files [] all = tt
told_left left files (d ∷ ds) all =
    ((left_some (is_among left d.name) (files d.name) _ all.0).1, told_left left files ds all.1)

none_of : (name : List ℕ) → Contains [] name → ⊥
none_of name (k, within, is) = absurd (omega (arith, within))

-- each name of those that are told is one of a file that is left
told_there : (left : List (List ℕ)) (files : Files) (ds : List DamagedFile) (name : List ℕ)
    → AreAsTold (files_without left files) ds → Contains (names_of ds) name
    → (is_among left name ≡ false) × IsSome (files name)
told_there left files [] name all has = absurd (none_of name has)
told_there left files (d ∷ ds) name all has =
    at (λ more. told_there left files ds name all.1 more) (Contains-append_cases (d.name ∷ []) (names_of ds) name has)
  where
    here : (is_among left d.name ≡ false) × IsSome (files d.name)
    here = let r = left_some (is_among left d.name) (files d.name) _ all.0 in (r.0, some_there (files d.name) _ r.1)

    at : (Contains (names_of ds) name → (is_among left name ≡ false) × IsSome (files name))
        → Contains (d.name ∷ []) name ⊎ Contains (names_of ds) name
        → (is_among left name ≡ false) × IsSome (files name)
    at later (inl first) = elim (Contains-push_cases [] d.name name first) [
      | inl none ↦ absurd (none_of name none)
      | inr same ↦ subst (λ (n : List ℕ). (is_among left n ≡ false) × IsSome (files n)) same here
    ]
    at later (inr more) = later more

-- ---- names among others

same_name : (x y : List ℕ) → pointwise nat_eq x y ≡ true → x ≡ y
same_name x y is = (slice_eq-Decides Decides-eqb x y (pointwise nat_eq x y) refl).0 is

among_has : (left : List (List ℕ)) (name : List ℕ) → is_among left name ≡ true → Contains left name
among_has left name is = Contains-from_any same_name name left is

has_among : (left : List (List ℕ)) (name : List ℕ) → Contains left name → is_among left name ≡ true
has_among left name has = list_any-from_Contains nat_list_eq_equiv name left has

-- ---- the damaged files of a range

whole_left : (b : Bool) (left : List (List ℕ)) (files : Files) (ds : List DamagedFile) (name : List ℕ)
    → is_among left name ≡ false → IsWholeOrListed (files_without left files) ds name → IsWholeOrListed files ds name
whole_left b left files ds name is (inl whole) =
    inl (λ file found. whole file (rw is found))
whole_left b left files ds name is (inr listed) = inr listed

pub damaged_in : (files : Files) (range : InRange) (names outside : List (List ℕ)) (ds : List DamagedFile)
    → AreNamesOf files names → ((name : List ℕ) → Contains outside name → IsOutside range name)
    → ((name : List ℕ) → Contains names name → Contains outside name ⊎ MayBeInside range name)
    → AreAsTold (files_without outside files) ds
    → ((name : List ℕ) → IsWholeOrListed (files_without outside files) ds name) → AreDamagedIn files range ds
damaged_in files range names outside ds of are or told listed = record {
  as_told = told_left outside files ds told;
  inside = λ name has. let there = told_there outside files ds name told has in
      elim (or name ((of name).1 there.1)) [
        | inl out ↦ let no : false ≡ true = sym there.0 ∙ has_among outside name out in absurd cc
        | inr inside ↦ inside
      ];
  others = λ name. at name (is_among outside name) refl;
}
  where
    at : (name : List ℕ) (b : Bool) → is_among outside name ≡ b → IsWholeOrListed files ds name ⊎ IsOutside range name
    at name true is = inr (are name (among_has outside name is))
    at name false is = inl (whole_left false outside files ds name is (listed name))
