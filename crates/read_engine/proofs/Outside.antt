-- The names of segments of days that have nothing in a range.
use Rattle.std.proofs.Common.{◌≡◌, ◌⊎◌, ◌+◌, ◌<◌, ◌∙◌, ℕ, ap, List, [], ◌∷◌, ◌++◌, inl, inr, length, get_or, subst, sym, take}
use Rattle.std.specs.Prelude.{Contains}
use Rattle.std.proofs.lemmas.List.{take_more}
use Rattle.std.proofs.lemmas.List.Elements.{Contains-append_left, Contains-push, Contains-push_cases}
use Rattle.archive_sets.specs.declared.range.InRange.{InRange}
use Rattle.read_engine.specs.Partial.{IsOutside, MayBeInside}

-- one name more
taken : (names : List (List ℕ)) (i : ℕ) (next : List ℕ) → i < length names → next ≡ get_or names i next
    → take (i + 1) names ≡ take i names ++ next ∷ []
taken names i next within is =
    take_more names i next within ∙ ap (λ (x : List ℕ). take i names ++ x ∷ []) (sym is)

module _ (range : InRange) where
  -- each of these is one of them
  abbrev pub AreOutside : List (List ℕ) → Type 0
  AreOutside names = (name : List ℕ) → Contains names name → IsOutside range name

  -- each name is among these, or may have something
  abbrev pub AreOrInside : List (List ℕ) → List (List ℕ) → Type 0
  AreOrInside names outside = (name : List ℕ) → Contains names name → Contains outside name ⊎ MayBeInside range name

  -- the next name is one of them
  pub outside_push : (names outside : List (List ℕ)) (i : ℕ) (next : List ℕ) → i < length names
      → next ≡ get_or names i next → IsOutside range next → AreOutside outside → AreOrInside (take i names) outside
      → AreOutside (outside ++ next ∷ []) × AreOrInside (take (i + 1) names) (outside ++ next ∷ [])
  outside_push names outside i next within is out are or = (
    (λ name has. elim (Contains-push_cases outside next name has) [
      | inl there ↦ are name there
      | inr same ↦ subst (IsOutside range) same out
    ]),
    subst (λ (l : List (List ℕ)). AreOrInside l (outside ++ next ∷ [])) (sym (taken names i next within is))
        (λ name has. elim (Contains-push_cases (take i names) next name has) [
          | inl before ↦ elim (or name before) [
            | inl there ↦ inl (Contains-append_left outside (next ∷ []) name there)
            | inr inside ↦ inr inside
          ]
          | inr same ↦ inl (subst (Contains (outside ++ next ∷ [])) same (Contains-push outside next))
        ]),
  )

  -- the next name may have something
  pub inside_next : (names outside : List (List ℕ)) (i : ℕ) (next : List ℕ) → i < length names
      → next ≡ get_or names i next → MayBeInside range next → AreOrInside (take i names) outside
      → AreOrInside (take (i + 1) names) outside
  inside_next names outside i next within is inside or =
      subst (λ (l : List (List ℕ)). AreOrInside l outside) (sym (taken names i next within is))
      (λ name has. elim (Contains-push_cases (take i names) next name has) [
        | inl before ↦ or name before
        | inr same ↦ inr (subst (MayBeInside range) same inside)
      ])
