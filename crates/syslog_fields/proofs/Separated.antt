-- Two fields with a delimiter between them, and a second field that hangs on the value of the first.
use Rattle.std.proofs.Common.{◌≡◌, ℕ, List, [], ◌∷◌, ◌++◌, length, refl, sym, ap, subst, ◌∙◌, append_assoc, inl, inr}
use Rattle.std.proofs.lemmas.List.{append_cancel_left, append-nil}
use Rattle.octet_language.specs.Language.{Language, Only, ◌⋅◌, AnyOf, Refuses, NoPrefix, IsPrefixFree}
use Rattle.octet_language.specs.Reading.{Fails, Follows}
use Rattle.octet_language.proofs.Lists.{parted, one_more, same_prefix}
use Rattle.octet_language.proofs.Sequence.{IsPrefixFree-then}
use Rattle.octet_language.proofs.Chain.{Fails-first, Fails-later, Fails-same, Follows-then, IsPrefixFree-only}
use Rattle.octet_language.proofs.Chain.{IsPrefixFree-same}

-- texts of one length
pub IsPrefixFree-length : (L : Language) (n : ℕ) → ((p : List ℕ) → L p → length p ≡ n) → IsPrefixFree L
IsPrefixFree-length L n long p s q t h k e = same_prefix p q s t (long p h ∙ sym (long q k)) e

-- ---- a delimiter between

abbrev pub Delimited : Language → ℕ → Language → Language
Delimited A m B = A ⋅ (Only (m ∷ []) ⋅ B)

pub bad_first : (A B : Language) (m : ℕ) (b t : List ℕ) (remaining : ℕ) → B t → Fails A b remaining
    → Fails (Delimited A m B) b remaining
bad_first A B m b t remaining some f = Fails-first A (Only (m ∷ []) ⋅ B) b (m ∷ t) remaining
    (m ∷ [], t, refl, refl, some) f

pub bad_middle : (A B : Language) (m : ℕ) (b rest t : List ℕ) (remaining : ℕ) → IsPrefixFree A → B t → Follows A b rest
    → Fails (Only (m ∷ [])) rest remaining → Fails (Delimited A m B) b remaining
bad_middle A B m b rest t remaining one some f g =
    Fails-later A (Only (m ∷ []) ⋅ B) b rest remaining one f (Fails-first (Only (m ∷ [])) B rest t remaining some g)

pub bad_second : (A B : Language) (m : ℕ) (b rest after : List ℕ) (remaining : ℕ) → IsPrefixFree A → Follows A b rest
    → Follows (Only (m ∷ [])) rest after → Fails B after remaining → Fails (Delimited A m B) b remaining
bad_second A B m b rest after remaining one f g h =
    Fails-later A (Only (m ∷ []) ⋅ B) b rest remaining one f
    (Fails-later (Only (m ∷ [])) B rest after remaining (IsPrefixFree-only (m ∷ [])) g h)

pub both_read : (A B : Language) (m : ℕ) (b rest after end : List ℕ) → Follows A b rest
    → Follows (Only (m ∷ [])) rest after → Follows B after end → Follows (Delimited A m B) b end
both_read A B m b rest after end f g h = Follows-then A (Only (m ∷ []) ⋅ B) b rest end f
    (Follows-then (Only (m ∷ [])) B rest after end g h)

pub IsPrefixFree-between : (A B : Language) (m : ℕ) → IsPrefixFree A → IsPrefixFree B → IsPrefixFree (Delimited A m B)
IsPrefixFree-between A B m one two = IsPrefixFree-then A (Only (m ∷ []) ⋅ B) one
    (IsPrefixFree-then (Only (m ∷ [])) B (IsPrefixFree-only (m ∷ [])) two)

-- the values of the two fields, one by one or as a pair
pub as_pair : {V W : Type 0} (A : V → Language) (B : W → Language) (m : ℕ) (b : List ℕ) (remaining : ℕ)
    → Fails (Delimited (AnyOf A) m (AnyOf B)) b remaining
    → Fails (AnyOf {V = V × W} (λ p. Delimited (A p.0) m (B p.1))) b remaining
as_pair {V} {W} A B m b remaining f =
    Fails-same (Delimited (AnyOf A) m (AnyOf B)) (AnyOf {V = V × W} (λ p. Delimited (A p.0) m (B p.1))) b remaining
    (λ s (x, y, e, (v, h), (z, w, g, k, (u, l))). ((v, u), (x, y, e, h, (z, w, g, k, l))))
    (λ s (p, (x, y, e, h, (z, w, g, k, l))). (x, y, e, (p.0, h), (z, w, g, k, (p.1, l))))
    f

pub IsPrefixFree-pair : {V W : Type 0} (A : V → Language) (B : W → Language) (m : ℕ) → IsPrefixFree (AnyOf A)
    → IsPrefixFree (AnyOf B) → IsPrefixFree (AnyOf {V = V × W} (λ p. Delimited (A p.0) m (B p.1)))
IsPrefixFree-pair {V} {W} A B m one two =
    IsPrefixFree-same (Delimited (AnyOf A) m (AnyOf B)) (AnyOf {V = V × W} (λ p. Delimited (A p.0) m (B p.1)))
    (λ s (p, (x, y, e, h, (z, w, g, k, l))). (x, y, e, (p.0, h), (z, w, g, k, (p.1, l))))
    (IsPrefixFree-between (AnyOf A) (AnyOf B) m one two)

-- ---- a second field that hangs on the value of the first

-- one text has one value
abbrev pub OneValue : {V : Type 0} → (V → Language) → Type 0
OneValue {V} A = (v w : V) (s : List ℕ) → A v s → A w s → v ≡ w

-- a value, and a text for it and after it
abbrev pub Hangs : {V : Type 0} → (V → Language) → (V → Language) → Language
Hangs A B = AnyOf (λ v. A v ⋅ B v)

hangs_refuses : {V : Type 0} (A B : V → Language) (b p rest : List ℕ) → b ≡ p ++ rest → NoPrefix (AnyOf A) b
    → Refuses (AnyOf A) p rest → Refuses (Hangs A B) p rest
hangs_refuses A B b p [] e none r = tt
hangs_refuses A B b p (x ∷ rest) e none r = λ (more, (v, (a, c, f, h, k))).
    elim (parted a c p x more (sym f ∙ one_more p x more)) [
      | inl z ↦ r (z.0, (v, subst (A v) (z.1 ∙ sym (one_more p x z.0)) h))
      | inr w ↦ none a (w.0 ++ x ∷ rest) (e ∙ ap (λ (s : List ℕ). s ++ x ∷ rest) w.1 ∙ append_assoc a w.0 (x ∷ rest))
          (v, h)
    ]

-- the first fails, so the two fail there
pub Fails-hangs_first : {V : Type 0} (A B : V → Language) (b : List ℕ) (remaining : ℕ)
    → ((v : V) (s : List ℕ) → A v s → (t : List ℕ) × B v t) → Fails (AnyOf A) b remaining
    → Fails (Hangs A B) b remaining
Fails-hangs_first A B b remaining some f =
    let s = f.stops in
    let k = some s.begins.1.0 (s.read ++ s.begins.0) s.begins.1.1 in
    record {
      none = λ x y e (v, (a, c, g, h, l)). f.none a (c ++ y) (e ∙ ap (λ (u : List ℕ). u ++ y) g ∙ append_assoc a c y)
          (v, h);
      stops = record {
        read = s.read;
        rest = s.rest;
        parts = s.parts;
        count = s.count;
        begins = (
          s.begins.0 ++ k.0,
          (
            s.begins.1.0,
            (s.read ++ s.begins.0, k.0, sym (append_assoc s.read s.begins.0 k.0), s.begins.1.1, k.1),
          ),
        );
        refuses = hangs_refuses A B b s.read s.rest s.parts f.none s.refuses;
      };
    }

behind_value : {V : Type 0} (A B : V → Language) (v : V) (p s x y : List ℕ) (w : V) → IsPrefixFree (AnyOf A)
    → OneValue A → A v p → A w x → B w y → (t : List ℕ) → p ++ s ≡ x ++ (y ++ t) → (s ≡ y ++ t) × B v y
behind_value {V} A B v p s x y w one value a h k t e =
    let same : p ≡ x = one p s x (y ++ t) (v, a) (w, h) e in
    let rests : s ≡ y ++ t = append_cancel_left p s (y ++ t) (e ∙ ap (λ (u : List ℕ). u ++ (y ++ t)) (sym same)) in
    (rests, subst (λ (u : V). B u y) (value w v p (subst (A w) (sym same) h) a) k)

later_refuses : {V : Type 0} (A B : V → Language) (v : V) (p q rest : List ℕ) → IsPrefixFree (AnyOf A) → OneValue A
    → A v p → Refuses (B v) q rest → Refuses (Hangs A B) (p ++ q) rest
later_refuses A B v p q [] one value a r = tt
later_refuses A B v p q (x ∷ rest) one value a r = λ (more, (w, (y, z, e, h, k))).
    let whole : p ++ (q ++ x ∷ more) ≡ y ++ (z ++ []) =
    sym (append_assoc p q (x ∷ more)) ∙ sym (one_more (p ++ q) x more) ∙ e
    ∙ ap (λ (u : List ℕ). y ++ u) (sym (append-nil z)) in
    let b = behind_value A B v p (q ++ x ∷ more) y z w one value a h k [] whole in
    r (more, subst (B v) (sym (one_more q x more ∙ b.0 ∙ append-nil z)) b.1)

-- after a text of the first, the two fail where the second fails at its value
pub Fails-hangs_later : {V : Type 0} (A B : V → Language) (v : V) (b rest : List ℕ) (remaining : ℕ)
    → IsPrefixFree (AnyOf A) → OneValue A → Follows (A v) b rest → Fails (B v) rest remaining
    → Fails (Hangs A B) b remaining
Fails-hangs_later A B v b rest remaining one value (p, e, a) f = record {
  none = λ x y d (w, (x', y', g, h, k)).
      let whole : p ++ rest ≡ x' ++ (y' ++ y) = sym e ∙ d ∙ ap (λ (u : List ℕ). u ++ y) g ∙ append_assoc x' y' y in
      let b = behind_value A B v p rest x' y' w one value a h k y whole in
      f.none y' y b.0 b.1;
  stops = record {
    read = p ++ f.stops.read;
    rest = f.stops.rest;
    parts = e ∙ ap (λ (u : List ℕ). p ++ u) f.stops.parts ∙ sym (append_assoc p f.stops.read f.stops.rest);
    count = f.stops.count;
    begins = (
      f.stops.begins.0,
      (
        v,
        (
          p,
          f.stops.read ++ f.stops.begins.0,
          append_assoc p f.stops.read f.stops.begins.0,
          a,
          f.stops.begins.1,
        ),
      ),
    );
    refuses = later_refuses A B v p f.stops.read f.stops.rest one value a f.stops.refuses;
  };
}

-- one prefix, where the second has one for each value
pub IsPrefixFree-hangs : {V : Type 0} (A B : V → Language) → IsPrefixFree (AnyOf A) → OneValue A
    → ((v : V) → IsPrefixFree (B v)) → IsPrefixFree (Hangs A B)
IsPrefixFree-hangs A B one value second p s q t (v, (x, y, e, a, b)) (w, (z, u, f, c, d)) g =
    let whole : x ++ (y ++ s) ≡ z ++ (u ++ t) =
    sym (append_assoc x y s) ∙ ap (λ (k : List ℕ). k ++ s) (sym e) ∙ g ∙ ap (λ (k : List ℕ). k ++ t) f
    ∙ append_assoc z u t in
    let same : x ≡ z = one x (y ++ s) z (u ++ t) (v, a) (w, c) whole in
    let k = behind_value A B v x (y ++ s) z u w one value a c d t whole in
    let seconds : y ≡ u = second v y s u t b k.1 k.0 in
    e ∙ ap (λ (k : List ℕ). k ++ y) same ∙ ap (λ (k : List ℕ). z ++ k) seconds ∙ sym f

-- ---- three fields and two marks, grouped

pub regroup : (A M B C : Language) (s : List ℕ) → (A ⋅ (M ⋅ (B ⋅ C))) s → ((A ⋅ (M ⋅ B)) ⋅ C) s
regroup A M B C s (x, y, e, a, (u, v, f, m, (w, z, g, b, c))) = (
  x ++ (u ++ w),
  z,
  e ∙ ap (λ (k : List ℕ). x ++ k) (f ∙ ap (λ (k : List ℕ). u ++ k) g ∙ sym (append_assoc u w z))
      ∙ sym (append_assoc x (u ++ w) z),
  (x, u ++ w, refl, a, (u, w, refl, m, b)),
  c,
)

pub ungroup : (A M B C : Language) (s : List ℕ) → ((A ⋅ (M ⋅ B)) ⋅ C) s → (A ⋅ (M ⋅ (B ⋅ C))) s
ungroup A M B C s (p, z, e, (x, q, f, a, (u, w, g, m, b)), c) = (
  x,
  u ++ (w ++ z),
  e ∙ ap (λ (k : List ℕ). k ++ z) (f ∙ ap (λ (k : List ℕ). x ++ k) g) ∙ append_assoc x (u ++ w) z
      ∙ ap (λ (k : List ℕ). x ++ k) (append_assoc u w z),
  a,
  (u, w ++ z, refl, m, (w, z, refl, b, c)),
)
