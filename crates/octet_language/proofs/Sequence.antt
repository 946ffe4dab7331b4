-- Where a sequence of two languages stops, from where its parts stop.
use Rattle.std.proofs.Common.{◌≡◌, ℕ, List, [], ◌∷◌, ◌++◌, sym, ap, subst, ◌∙◌, append_assoc, inl, inr}
use Rattle.std.proofs.lemmas.List.{append_cancel_left, append-nil}
use Rattle.octet_language.specs.Language.{Language, ◌⋅◌, Refuses, Stops, NoPrefix, IsPrefixFree, Only}
use Rattle.octet_language.proofs.Lists.{parted, one_more}

-- no prefix of the first, so no prefix of the two
pub NoPrefix-first : (A B : Language) (b : List ℕ) → NoPrefix A b → NoPrefix (A ⋅ B) b
NoPrefix-first A B b none x y e h = none h.0 (h.1 ++ y) (e ∙ ap (λ (s : List ℕ). s ++ y) h.2 ∙ append_assoc h.0 h.1 y)
    h.3

Refuses-first : (A B : Language) (b p rest : List ℕ) → b ≡ p ++ rest → NoPrefix A b → Refuses A p rest
    → Refuses (A ⋅ B) p rest
Refuses-first A B b p [] e none r = tt
Refuses-first A B b p (x ∷ rest) e none r = λ (more, h).
    elim (parted h.0 h.1 p x more (sym h.2 ∙ one_more p x more)) [
      | inl z ↦ r (z.0, subst A (z.1 ∙ sym (one_more p x z.0)) h.3)
      | inr w ↦ none h.0 (w.0 ++ x ∷ rest) (e ∙ ap (λ (s : List ℕ). s ++ x ∷ rest) w.1
          ∙ append_assoc h.0 w.0 (x ∷ rest)) h.3
    ]

-- where the first stops, the two stop
pub Stops-first : (A B : Language) (b : List ℕ) (remaining : ℕ) (t : List ℕ) → B t → NoPrefix A b → Stops A b remaining
    → Stops (A ⋅ B) b remaining
Stops-first A B b remaining t some none s = record {
  read = s.read;
  rest = s.rest;
  parts = s.parts;
  count = s.count;
  begins = (s.begins.0 ++ t, (s.read ++ s.begins.0, t, sym (append_assoc s.read s.begins.0 t), s.begins.1, some));
  refuses = Refuses-first A B b s.read s.rest s.parts none s.refuses;
}

-- the rest of a list after a text of the first is a text of the second
pub behind : (A B : Language) (p s : List ℕ) → IsPrefixFree A → A p → (A ⋅ B) (p ++ s) → B s
behind A B p s one a h =
    let same : p ≡ h.0 = one p s h.0 h.1 a h.3 h.2 in
    subst B (sym (append_cancel_left p s h.1 (h.2 ∙ ap (λ (q : List ℕ). q ++ h.1) (sym same)))) h.4

Refuses-later : (A B : Language) (p q rest : List ℕ) → IsPrefixFree A → A p → Refuses B q rest
    → Refuses (A ⋅ B) (p ++ q) rest
Refuses-later A B p q [] one a r = tt
Refuses-later A B p q (x ∷ rest) one a r = λ (more, h).
    r (
      more,
      subst B (sym (one_more q x more))
          (behind A B p (q ++ x ∷ more) one a
          (subst (A ⋅ B) (one_more (p ++ q) x more ∙ append_assoc p q (x ∷ more)) h)),
    )

-- after a text of the first, the two stop where the second stops
pub Stops-later : (A B : Language) (b p rest : List ℕ) (remaining : ℕ) → IsPrefixFree A → A p → b ≡ p ++ rest
    → Stops B rest remaining → Stops (A ⋅ B) b remaining
Stops-later A B b p rest remaining one a e s = record {
  read = p ++ s.read;
  rest = s.rest;
  parts = e ∙ ap (λ (t : List ℕ). p ++ t) s.parts ∙ sym (append_assoc p s.read s.rest);
  count = s.count;
  begins = (s.begins.0, (p, s.read ++ s.begins.0, append_assoc p s.read s.begins.0, a, s.begins.1));
  refuses = Refuses-later A B p s.read s.rest one a s.refuses;
}

pub NoPrefix-later : (A B : Language) (b p rest : List ℕ) → IsPrefixFree A → A p → b ≡ p ++ rest → NoPrefix B rest
    → NoPrefix (A ⋅ B) b
NoPrefix-later A B b p rest one a e none x y d h =
    let same : h.0 ≡ p = one h.0 (h.1 ++ y) p rest h.3 a
    (sym (append_assoc h.0 h.1 y) ∙ ap (λ (t : List ℕ). t ++ y) (sym h.2) ∙ sym d ∙ e) in
    none h.1 y (append_cancel_left p rest (h.1 ++ y)
    (sym e ∙ d ∙ ap (λ (t : List ℕ). t ++ y) h.2 ∙ append_assoc h.0 h.1 y
    ∙ ap (λ (t : List ℕ). t ++ (h.1 ++ y)) same)) h.4

-- after a text of the first, the two have no whole text where the second has none
pub Misses-later : (A B : Language) (b p rest : List ℕ) → IsPrefixFree A → A p → b ≡ p ++ rest → ¬ (B rest)
    → ¬ ((A ⋅ B) b)
Misses-later A B b p rest one a e none h = none (behind A B p rest one a (subst (A ⋅ B) e h))

pub Misses-NoPrefix : (L : Language) (b : List ℕ) → NoPrefix L b → ¬ (L b)
Misses-NoPrefix L b none h = none b [] (sym (append-nil b)) h

-- the sequence of two prefix-free languages is prefix-free
pub IsPrefixFree-then : (A B : Language) → IsPrefixFree A → IsPrefixFree B → IsPrefixFree (A ⋅ B)
IsPrefixFree-then A B first second p s q t a b e =
    let left : p ++ s ≡ a.0 ++ (a.1 ++ s) = ap (λ (u : List ℕ). u ++ s) a.2 ∙ append_assoc a.0 a.1 s in
    let right : q ++ t ≡ b.0 ++ (b.1 ++ t) = ap (λ (u : List ℕ). u ++ t) b.2 ∙ append_assoc b.0 b.1 t in
    let same : a.0 ≡ b.0 = first a.0 (a.1 ++ s) b.0 (b.1 ++ t) a.3 b.3 (sym left ∙ e ∙ right) in
    let rests : a.1 ++ s ≡ b.1 ++ t = append_cancel_left a.0 (a.1 ++ s) (b.1 ++ t)
    (sym left ∙ e ∙ right ∙ ap (λ (u : List ℕ). u ++ (b.1 ++ t)) (sym same)) in
    let seconds : a.1 ≡ b.1 = second a.1 s b.1 t a.4 b.4 rests in
    a.2 ∙ ap (λ (u : List ℕ). u ++ a.1) same ∙ ap (λ (u : List ℕ). b.0 ++ u) seconds ∙ sym b.2

-- ---- languages of one text

pub only_once : (a s t : List ℕ) → Only a s → Only a t → s ≡ t
only_once a s t h k = h ∙ sym k

pub once : (A B : Language) (b c : List ℕ) → ((s t : List ℕ) → A s → A t → s ≡ t) → ((s t : List ℕ) → B s → B t → s ≡ t)
    → (A ⋅ B) b → (A ⋅ B) c → b ≡ c
once A B b c one two (x, y, e, h, k) (u, v, f, i, j) =
    e ∙ ap (λ (s : List ℕ). s ++ y) (one x u h i) ∙ ap (λ (s : List ℕ). u ++ s) (two y v k j) ∙ sym f
