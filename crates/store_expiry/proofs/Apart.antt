-- Names that are in a list once.
use Rattle.std.proofs.Common.{◌≡◌, ◌⊎◌, ⊎_elim, ℕ, List, [], ◌∷◌, ◌++◌, sym, subst, take, drop}
use Rattle.std.specs.Prelude.{Contains}
use Rattle.std.proofs.lemmas.List.{take-append-drop}
use Rattle.std.proofs.lemmas.List.Elements.{Contains-append_cases, Contains-append_left, Contains-append_right}
use Rattle.std.proofs.lemmas.List.Elements.{Contains-push, Contains-push_cases}
use Rattle.store_reading.proofs.Held.{no_name}
use Rattle.store_expiry.specs.Lines.{AreApart}

pub none_there : (name : List ℕ) → ¬ (Contains [] name)
none_there name has = no_name (λ (n : List ℕ). Unit {0}) (name, has, tt)

pub one_there : (name other : List ℕ) → Contains (name ∷ []) other → other ≡ name
one_there name other has =
    ⊎_elim (λ none. absurd (none_there other none)) (λ is. sym is) (Contains-push_cases [] name other has)

here : (name : List ℕ) (names : List (List ℕ)) → Contains (name ∷ names) name
here name names = Contains-append_left (name ∷ []) names name (Contains-push [] name)

behind : (name : List ℕ) (names : List (List ℕ)) (other : List ℕ) → Contains names other
    → Contains (name ∷ names) other
behind name names other has = Contains-append_right (name ∷ []) names other has

pub one_apart : (name : List ℕ) → AreApart (name ∷ [])
one_apart name = (none_there name, tt)

pub both_apart : (xs ys : List (List ℕ)) → AreApart xs → AreApart ys
    → ((name : List ℕ) → Contains xs name → Contains ys name → ⊥) → AreApart (xs ++ ys)
both_apart [] ys one two apart = two
both_apart (x ∷ xs) ys one two apart = (
  (λ has. ⊎_elim (λ first. one.0 first) (λ then. apart x (here x xs) then) (Contains-append_cases xs ys x has)),
  both_apart xs ys one.1 two (λ name has. apart name (behind x xs name has)),
)

pub front_apart : (xs ys : List (List ℕ)) → AreApart (xs ++ ys) → AreApart xs
front_apart [] ys apart = tt
front_apart (x ∷ xs) ys apart =
    ((λ has. apart.0 (Contains-append_left xs ys x has)), front_apart xs ys apart.1)

pub last_apart : (xs : List (List ℕ)) (last : List ℕ) → AreApart (xs ++ last ∷ []) → ¬ (Contains xs last)
last_apart [] last apart has = none_there last has
last_apart (x ∷ xs) last apart has = ⊎_elim
    (λ first. apart.0 (subst (Contains (xs ++ last ∷ [])) (one_there x last first) (Contains-push xs last)))
    (λ then. last_apart xs last apart.1 then)
    (Contains-append_cases (x ∷ []) xs last has)

-- ---- the next one of a list

pub front_there : (names : List (List ℕ)) (i : ℕ) (name : List ℕ) → Contains (take i names) name → Contains names name
front_there names i name has =
    subst (λ (l : List (List ℕ)). Contains l name) (take-append-drop i names)
    (Contains-append_left (take i names) (drop i names) name has)

pub next_there : (names : List (List ℕ)) (i : ℕ) (first : List (List ℕ)) (last : List ℕ)
    → take i names ≡ first ++ last ∷ [] → Contains names last
next_there names i first last is =
    front_there names i last (subst (λ (l : List (List ℕ)). Contains l last) (sym is) (Contains-push first last))

pub next_apart : (names : List (List ℕ)) (i : ℕ) (first : List (List ℕ)) (last : List ℕ)
    → take i names ≡ first ++ last ∷ [] → AreApart names → ¬ (Contains first last)
next_apart names i first last is apart =
    last_apart first last (subst AreApart is
    (front_apart (take i names) (drop i names) (subst AreApart (sym (take-append-drop i names)) apart)))
