-- The files of names are added.
use Rattle.std.proofs.Common.{◌≡◌, ℕ, ◌+◌, ◌<◌, List, [], ◌∷◌, ◌++◌, length, get_or, drop, inl, inr}
use Rattle.std.proofs.Common.{refl, sym, ap, subst, ◌∙◌, append_assoc, append-nil}
use Rattle.std.specs.Prelude.{◌↔◌, Contains, IsSome}
use Rattle.std.specs.Cmp.Lexicographic.{slice_cmp}
use Rattle.std.specs.List.{AllByRecursion}
use Rattle.std.specs.List.Sorted.{IsStrictlySortedBy}
use Rattle.std.specs.Ordering.{nat_cmp}
use Rattle.std.specs.declared.cmp.Ordering.TheVariants.{Less}
use Rattle.std.proofs.lemmas.List.{drop_more, map-append}
use Rattle.std.proofs.lemmas.List.Elements.{Contains-append_left, Contains-push}
use Rattle.disk.specs.States.{Files}
use Rattle.archive_text.proofs.Members.{all_append}
use Rattle.store_reading.specs.Folders.{AreNamesOf}
use Rattle.store_upkeep.specs.Causes.{IsCounted}
use Rattle.store_upkeep.specs.Damages.{AreAsTold, IsToldAt, names_of}
use Rattle.store_upkeep.specs.declared.damage.DamagedFile.{DamagedFile}
use Rattle.store_upkeep.proofs.Verdicts.{adds_stays, listed_push}
use Rattle.store_statistics.specs.Files.{HasFigures}
use Rattle.store_statistics.specs.Statistics.{AddsFile, AreInOrder, AreToldOf, HaveFigures, IsEmpty, IsRight, IsToldOf, file_names}
use Rattle.store_statistics.specs.declared.figures.FileFigures.{FileFigures}
use Rattle.store_statistics.specs.declared.survey.Survey.{Survey}
use Rattle.store_statistics.proofs.Naming.{one_less}

names_push : (fs : List FileFigures) (f : FileFigures) → file_names (fs ++ f ∷ []) ≡ file_names fs ++ f.name ∷ []
names_push fs f = map-append (λ (x : FileFigures). x.name) fs (f ∷ [])

pub figures_push : (fs : List FileFigures) (f : FileFigures) → Contains (file_names (fs ++ f ∷ [])) f.name
figures_push fs f =
    subst (λ (l : List (List ℕ)). Contains l f.name) (sym (names_push fs f)) (Contains-push (file_names fs) f.name)

-- ---- what was told of stays so

figures_stay : (fs gs : List FileFigures) (name : List ℕ) → (added : List FileFigures) × (gs ≡ fs ++ added)
    → Contains (file_names fs) name → Contains (file_names gs) name
figures_stay fs gs name (added, is) has =
    subst (λ (l : List (List ℕ)). Contains l name)
    (sym (ap file_names is ∙ map-append (λ (x : FileFigures). x.name) fs added))
    (Contains-append_left (file_names fs) (file_names added) name has)

module _ {tells : Type 0} (files : Files) (name : List ℕ) (s t : Survey) (a : AddsFile tells files name s t) where
  more_figures : (added : List FileFigures) × (t.files.items ≡ s.files.items ++ added)
  more_figures = elim a.figures [
    | inl same ↦ ([], same ∙ sym (append-nil s.files.items))
    | inr (f, is, named, has) ↦ (f ∷ [], is)
  ]

  more_damaged : (added : List DamagedFile) × (t.damaged.items ≡ s.damaged.items ++ added)
  more_damaged = elim a.damaged [
    | inl same ↦ ([], same ∙ sym (append-nil s.damaged.items))
    | inr (d, is, told) ↦ (d ∷ [], is)
  ]

  stays : (other : List ℕ) → IsToldOf s.files.items s.damaged.items other
      → IsToldOf t.files.items t.damaged.items other
  stays other (inl has) = inl (figures_stay s.files.items t.files.items other more_figures has)
  stays other (inr has) = inr (adds_stays s.damaged.items t.damaged.items more_damaged other has)

  right_figures : tells → HaveFigures files s.files.items → HaveFigures files t.files.items
  right_figures holds all = elim a.figures [
    | inl same ↦ subst (HaveFigures files) (sym same) all
    | inr (f, is, named, has) ↦ subst (HaveFigures files) (sym is)
        (all_append (λ (x : FileFigures). HasFigures files x.name x.figures) s.files.items (f ∷ []) all (has holds, tt))
  ]

  right_damaged : tells → AreAsTold files s.damaged.items → AreAsTold files t.damaged.items
  right_damaged holds all = elim a.damaged [
    | inl same ↦ subst (AreAsTold files) (sym same) all
    | inr (d, is, told) ↦ subst (AreAsTold files) (sym is)
        (all_append (λ (x : DamagedFile). IsToldAt files x.name x.damage) s.damaged.items (d ∷ []) all (told holds, tt))
  ]

  pub right_more : tells → IsRight files s → IsRight files t
  right_more holds r = record { figures = right_figures holds r.figures; damaged = right_damaged holds r.damaged }

  -- and what is left of the names stands behind
  pub order_more : (rest : List (List ℕ))
      → IsStrictlySortedBy (slice_cmp nat_cmp) (file_names s.files.items ++ name ∷ rest)
      → IsStrictlySortedBy (slice_cmp nat_cmp) (file_names t.files.items ++ rest)
  order_more rest up = elim a.figures [
    | inl same ↦ subst (λ (l : List FileFigures). IsStrictlySortedBy (slice_cmp nat_cmp) (file_names l ++ rest))
        (sym same) (one_less (file_names s.files.items) name rest up)
    | inr (f, is, named, has) ↦ subst (IsStrictlySortedBy (slice_cmp nat_cmp)) (sym (as_before f is named)) up
  ]
    where
      as_before : (f : FileFigures) → t.files.items ≡ s.files.items ++ f ∷ [] → f.name ≡ name
          → file_names t.files.items ++ rest ≡ file_names s.files.items ++ name ∷ rest
      as_before f is named =
          ap (λ (l : List FileFigures). file_names l ++ rest) is
          ∙ ap (λ (l : List (List ℕ)). l ++ rest) (names_push s.files.items f)
          ∙ append_assoc (file_names s.files.items) (f.name ∷ []) rest
          ∙ ap (λ (n : List ℕ). file_names s.files.items ++ n ∷ rest) named

-- ---- a file

pub none_added : {tells : Type 0} (files : Files) (name : List ℕ) (s : Survey) → AddsFile tells files name s s
none_added files name s = record { figures = inl refl; damaged = inl refl }

pub figures_added : {tells : Type 0} (files : Files) (name : List ℕ) (s t : Survey) (f : FileFigures)
    → t.files.items ≡ s.files.items ++ f ∷ [] → t.damaged.items ≡ s.damaged.items → f.name ≡ name
    → (tells → HasFigures files f.name f.figures) → AddsFile tells files name s t
figures_added files name s t f is same named has = record { figures = inr (f, is, named, has); damaged = inl same }

pub damaged_added : {tells : Type 0} (files : Files) (name : List ℕ) (s t : Survey) (d : DamagedFile)
    → t.damaged.items ≡ s.damaged.items ++ d ∷ [] → t.files.items ≡ s.files.items
    → (tells → IsToldAt files d.name d.damage) → AddsFile tells files name s t
damaged_added files name s t d is same told = record { figures = inl same; damaged = inr (d, is, told) }

pub figures_listed : (files : Files) (name : List ℕ) (old fs : List FileFigures) (ds : List DamagedFile)
    (f : FileFigures) → fs ≡ old ++ f ∷ [] → f.name ≡ name → AreToldOf files (λ (n : List ℕ). n ≡ name) fs ds
figures_listed files name old fs ds f is named n same counts some =
    inl (subst (Contains (file_names fs)) (named ∙ sym same)
    (subst (λ (l : List FileFigures). Contains (file_names l) f.name) (sym is) (figures_push old f)))

pub damaged_listed : (files : Files) (name : List ℕ) (fs : List FileFigures) (old ds : List DamagedFile)
    (d : DamagedFile) → ds ≡ old ++ d ∷ [] → d.name ≡ name → AreToldOf files (λ (n : List ℕ). n ≡ name) fs ds
damaged_listed files name fs old ds d is named n same counts some =
    inr (subst (Contains (names_of ds)) (named ∙ sym same)
    (subst (λ (l : List DamagedFile). Contains (names_of l) d.name) (sym is) (listed_push old d)))

pub nothing_listed : (files : Files) (name : List ℕ) (fs : List FileFigures) (ds : List DamagedFile)
    → (IsCounted name → IsSome (files name) → ⊥) → AreToldOf files (λ (n : List ℕ). n ≡ name) fs ds
nothing_listed files name fs ds none n same counts some =
    absurd (none (subst IsCounted same counts) (subst (λ (m : List ℕ). IsSome (files m)) same some))

-- ---- files

pub sorted_front : (xs ys : List (List ℕ)) → IsStrictlySortedBy (slice_cmp nat_cmp) (xs ++ ys)
    → IsStrictlySortedBy (slice_cmp nat_cmp) xs
unfolding IsStrictlySortedBy
sorted_front [] ys up = tt
sorted_front (x ∷ xs) ys up =
    (front (λ (n : List ℕ). slice_cmp nat_cmp x n ≡ Less) xs ys up.0, sorted_front xs ys up.1)
  where
    front : (P : List ℕ → Type 0) (xs ys : List (List ℕ)) → AllByRecursion P (xs ++ ys) → AllByRecursion P xs
    front P [] ys all = tt
    front P (x ∷ xs) ys all = (all.0, front P xs ys all.1)

none_sorted : IsStrictlySortedBy (slice_cmp nat_cmp) []
unfolding IsStrictlySortedBy
none_sorted = tt

pub none_in_order : (fs : List FileFigures) → fs ≡ [] → AreInOrder fs
none_in_order fs none = subst AreInOrder (sym none) none_sorted

pub order_begun : (s : Survey) (names : List (List ℕ)) → IsEmpty s → IsStrictlySortedBy (slice_cmp nat_cmp) names
    → IsStrictlySortedBy (slice_cmp nat_cmp) (file_names s.files.items ++ names)
order_begun s names empty up =
    subst (λ (l : List FileFigures). IsStrictlySortedBy (slice_cmp nat_cmp) (file_names l ++ names)) (sym empty.0) up

pub order_next : (names : List (List ℕ)) (i : ℕ) (name : List ℕ) (xs : List (List ℕ)) → i < length names
    → name ≡ get_or names i name → IsStrictlySortedBy (slice_cmp nat_cmp) (xs ++ drop i names)
    → IsStrictlySortedBy (slice_cmp nat_cmp) (xs ++ name ∷ drop (i + 1) names)
order_next names i name xs within is up =
    subst (λ (l : List (List ℕ)). IsStrictlySortedBy (slice_cmp nat_cmp) (xs ++ l))
    (drop_more names i name within ∙ ap (λ (n : List ℕ). n ∷ drop (i + 1) names) (sym is)) up

pub right_begun : (files : Files) (s : Survey) → IsEmpty s → IsRight files s
right_begun files s empty = record {
  figures = subst (HaveFigures files) (sym empty.0) tt;
  damaged = subst (AreAsTold files) (sym empty.1) tt;
}

pub listed_on : {tells : Type 0} (files : Files) (name : List ℕ) (s t : Survey) → AddsFile tells files name s t
    → (other : List ℕ) → (IsCounted other → IsSome (files other) → IsToldOf s.files.items s.damaged.items other)
    → IsCounted other → IsSome (files other) → IsToldOf t.files.items t.damaged.items other
listed_on files name s t a other before counts some = stays files name s t a other (before counts some)

pub settled_names : (files : Files) (names settled : List (List ℕ)) (same : List (List ℕ)) → AreNamesOf files names
    → ((name : List ℕ) → Contains settled name ↔ Contains names name) → same ≡ settled → AreNamesOf files same
settled_names files names settled same listed settles is = subst (AreNamesOf files) (sym is) (λ name. (
  λ has. (listed name).0 ((settles name).0 has),
  λ some. (settles name).1 ((listed name).1 some),
))

pub all_listed : (files : Files) (names : List (List ℕ)) (fs : List FileFigures) (ds : List DamagedFile)
    → AreNamesOf files names → AreToldOf files (Contains names) fs ds → (name : List ℕ) → IsCounted name
    → IsSome (files name) → IsToldOf fs ds name
all_listed files names fs ds listed told name counts some = told name ((listed name).1 some) counts some
