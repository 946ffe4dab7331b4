-- Items of a text that were passed over, and those that are left.
use Rattle.std.proofs.Common.{◌≡◌, ℕ, ◌+◌, ◌≤◌, List, [], ◌∷◌, ◌++◌, length, refl, sym, ap, subst, ◌∙◌, append_assoc, arith}
use Rattle.std.proofs.lemmas.List.{append-nil, append_cancel_left, length-append}
use Rattle.octet_language.specs.Language.{Language, AnyOf, Each, IsPrefixFree}
use Rattle.octet_language.specs.Reading.{Follows}
use Rattle.c_library.specs.Items.{IsFew, IsFrom, IsNumber}

-- the first item and the others, where a reader of it took its text
pub next_item : {V W : Type 0} (A : V → Language) (S : W → Language) → IsPrefixFree (AnyOf A)
    → ((s : List ℕ) → AnyOf S s → AnyOf A s)
    → (v : V) (vs : List V) (w : W) (rest behind : List ℕ) → Each A (v ∷ vs) rest → Follows (S w) rest behind
    → (x : List ℕ) × A v x × S w x × Each A vs behind
next_item A S one from v vs w rest behind (x, y, e, h, k) (t, f, s) =
    let same : x ≡ t = one x y t behind (v, h) (from t (w, s)) (sym e ∙ f) in
    let rests : y ≡ behind = append_cancel_left x y behind (sym e ∙ f ∙ ap (λ (u : List ℕ). u ++ behind) (sym same)) in
    (t, subst (A v) same h, s, subst (Each A vs) rests k)

-- so many items were passed over, and the rest has the others
abbrev pub Walked : {V : Type 0} → (V → Language) → List ℕ → List ℕ → ℕ → Type 0
Walked {V} A text rest passed =
    (items : List V) → Each A items text
    → (before : List V) × (todo : List V) × (items ≡ before ++ todo) × (passed ≡ length before) × Each A todo rest
    × ((front : List ℕ) × (text ≡ front ++ rest))

pub walked_none : {V : Type 0} (A : V → Language) (text : List ℕ) → Walked A text text 0
walked_none A text items h = ([], items, refl, refl, h, ([], refl))

pub nothing : (x : ℕ) (rest after : List ℕ) → rest ≡ x ∷ after → rest ≡ [] → ⊥
nothing x rest after e h = let i : x ∷ after ≡ [] = sym e ∙ h in absurd cc

pub walked_more : {V W : Type 0} (A : V → Language) (S : W → Language) → IsPrefixFree (AnyOf A)
    → ((s : List ℕ) → AnyOf S s → AnyOf A s)
    → (text rest behind after : List ℕ) (x n : ℕ) (w : W) → rest ≡ x ∷ after
    → ((after : List ℕ) → Follows (AnyOf A) rest after → Follows (S w) rest behind)
    → Walked A text rest n → Walked A text behind (n + 1)
walked_more {V} A S one from text rest behind after x n w e f walked items h = go (walked items h)
  where
    go : ((before : List V) × (todo : List V) × (items ≡ before ++ todo) × (n ≡ length before) × Each A todo rest
        × ((front : List ℕ) × (text ≡ front ++ rest)))
        → (before : List V) × (todo : List V) × (items ≡ before ++ todo) × (n + 1 ≡ length before) × Each A todo behind
        × ((front : List ℕ) × (text ≡ front ++ behind))
    go (before, [], g, m, k, l) = absurd (nothing x rest after e k)
    go (before, q ∷ todo, g, m, k, l) =
        let first = f k.1 (k.0, k.2, (q, k.3)) in
        let item = next_item A S one from q todo w rest behind k first in (
          before ++ q ∷ [],
          todo,
          g ∙ sym (append_assoc before (q ∷ []) todo),
          omega (arith, m, length-append before (q ∷ [])),
          item.3,
          (
            l.0 ++ first.0,
            l.1 ∙ ap (λ (u : List ℕ). l.0 ++ u) first.1 ∙ sym (append_assoc l.0 first.0 behind),
          ),
        )

pub walked_to : {V : Type 0} (A : V → Language) (text rest after : List ℕ) (x passed n : ℕ) → rest ≡ x ∷ after
    → passed ≡ n → Walked A text rest passed → IsFrom A n text rest
walked_to {V} A text rest after x passed n e is walked items h = go (walked items h)
  where
    go : ((before : List V) × (todo : List V) × (items ≡ before ++ todo) × (passed ≡ length before) × Each A todo rest
        × ((front : List ℕ) × (text ≡ front ++ rest)))
        → (item : V) × (behind : List V) × IsNumber items n item × Each A (item ∷ behind) rest
        × ((front : List ℕ) × (text ≡ front ++ rest))
    go (before, [], g, m, k, l) = absurd (nothing x rest after e k)
    go (before, q ∷ todo, g, m, k, l) = (
      q,
      todo,
      record { before = before; behind = todo; parts = g; number_is = sym is ∙ m },
      k,
      l,
    )

-- all were passed over
pub walked_all : {V : Type 0} (A : V → Language) → ¬ (AnyOf A []) → (text rest : List ℕ) (passed : ℕ) → rest ≡ []
    → Walked A text rest passed → (items : List V) → Each A items text → passed ≡ length items
walked_all {V} A some text rest passed e walked items h = go (walked items h)
  where
    no_item : (a b : List ℕ) (q : V) → a ++ b ≡ [] → A q a → ⊥
    no_item [] b q e k = some (q, k)
    no_item (y ∷ a) b q e k = absurd cc

    go : ((before : List V) × (todo : List V) × (items ≡ before ++ todo) × (passed ≡ length before) × Each A todo rest
        × ((front : List ℕ) × (text ≡ front ++ rest))) → passed ≡ length items
    go (before, [], g, m, k, l) = m ∙ sym (ap length (g ∙ append-nil before))
    go (before, q ∷ todo, g, m, (a, b, i, j, k), l) = absurd (no_item a b q (sym i ∙ e) j)

pub walked_few : {V : Type 0} (A : V → Language) → ¬ (AnyOf A []) → (text rest : List ℕ) (passed n : ℕ) → rest ≡ []
    → passed ≤ n → Walked A text rest passed → IsFew A n text passed
walked_few A some text rest passed n e le walked items h = (walked_all A some text rest passed e walked items h, le)
