-- Items one after the other, up to what ends them.
use Rattle.std.proofs.Common.{◌≡◌, ℕ, List, [], ◌∷◌, ◌++◌, refl, sym, ap, subst, ◌∙◌, append_assoc, inl, inr, ◌⊎◌}
use Rattle.std.proofs.lemmas.List.{append_cancel_left}
use Rattle.octet_language.specs.Language.{Language, ◌⋅◌, AnyOf, Each, Refuses, IsPrefixFree, IfFirst}
use Rattle.octet_language.specs.Reading.{Fails, Follows}
use Rattle.octet_language.proofs.Lists.{heads}
use Rattle.octet_language.proofs.Chain.{Fails-first, Fails-later}

-- the language has no empty text, and no text with the octet before b, if there is one
pub record Apart (Z : Language) (b : List ℕ) : Type 0 where
  pub some : ¬ (Z [])
  pub prefix : IfFirst (λ x. (w : List ℕ) → ¬ (Z (x ∷ w))) b

pub apart_prefix : (Z : Language) (b z y : List ℕ) → Apart Z b → b ≡ z ++ y → ¬ (Z z)
apart_prefix Z b [] y a e = a.some
apart_prefix Z [] (x ∷ z) y a e = absurd cc
apart_prefix Z (h ∷ b) (x ∷ z) y a e = λ k. a.prefix z (subst (λ (n : ℕ). Z (n ∷ z)) (sym (heads h x b (z ++ y) e)) k)

pub apart_read : (Z : Language) (b p r more : List ℕ) (x : ℕ) → Apart Z b → b ≡ p ++ x ∷ r
    → ¬ (Z ((p ++ x ∷ []) ++ more))
apart_read Z [] [] r more x a e = absurd cc
apart_read Z [] (q ∷ p) r more x a e = absurd cc
apart_read Z (h ∷ b) [] r more x a e = λ k. a.prefix more (subst (λ (n : ℕ). Z (n ∷ more)) (sym (heads h x b r e)) k)
apart_read Z (h ∷ b) (q ∷ p) r more x a e =
    λ k. a.prefix ((p ++ x ∷ []) ++ more) (subst (λ (n : ℕ). Z (n ∷ (p ++ x ∷ []) ++ more))
    (sym (heads h q b (p ++ x ∷ r) e)) k)

-- with other texts that begin differently from b, the same offset
pub Fails-or : (L Z M : Language) (b : List ℕ) (remaining : ℕ) → ((s : List ℕ) → L s → M s)
    → ((s : List ℕ) → M s → L s ⊎ Z s) → Apart Z b → Fails L b remaining → Fails M b remaining
Fails-or L Z M b remaining to from a f = record {
  none = λ x y e m. elim (from x m) [ inl h ↦ f.none x y e h | inr z ↦ apart_prefix Z b x y a e z ];
  stops = record {
    read = f.stops.read;
    rest = f.stops.rest;
    parts = f.stops.parts;
    count = f.stops.count;
    begins = (f.stops.begins.0, to (f.stops.read ++ f.stops.begins.0) f.stops.begins.1);
    refuses = refuses_or f.stops.read f.stops.rest f.stops.parts f.stops.refuses;
  };
}
  where
    refuses_or : (p rest : List ℕ) → b ≡ p ++ rest → Refuses L p rest → Refuses M p rest
    refuses_or p [] e r = tt
    refuses_or p (x ∷ rest) e r = λ (more, m).
        elim (from ((p ++ x ∷ []) ++ more) m) [ inl h ↦ r (more, h) | inr z ↦ apart_read Z b p rest more x a e z ]

-- ---- items up to an end

-- any number of items, and then the end
abbrev pub Many : {V : Type 0} → (V → Language) → Language → Language
Many A Z = AnyOf (Each A) ⋅ Z

pub many_none : {V : Type 0} (A : V → Language) (Z : Language) (s : List ℕ) → Z s → Many A Z s
many_none A Z s z = ([], s, refl, ([], refl), z)

pub many_more : {V : Type 0} (A : V → Language) (Z : Language) (s : List ℕ) → (AnyOf A ⋅ Many A Z) s → Many A Z s
many_more A Z s (p, t, e, (v, a), (x, y, f, (vs, h), z)) =
    (p ++ x, y, e ∙ ap (λ (k : List ℕ). p ++ k) f ∙ sym (append_assoc p x y), (v ∷ vs, (p, x, refl, a, h)), z)

-- no item, or one and then many
pub many_cases : {V : Type 0} (A : V → Language) (Z : Language) (s : List ℕ) → Many A Z s → (AnyOf A ⋅ Many A Z) s ⊎ Z s
many_cases A Z s (x, y, e, ([], h), z) = inr (subst Z (sym (e ∙ ap (λ (k : List ℕ). k ++ y) h)) z)
many_cases A Z s (x, y, e, (v ∷ vs, (p, q, f, a, h)), z) =
    inl (p, q ++ y, e ∙ ap (λ (k : List ℕ). k ++ y) f ∙ append_assoc p q y, (v, a), (q, y, refl, (vs, h), z))

-- where the next item fails, or what follows it does, all fail
pub Fails-many : {V : Type 0} (A : V → Language) (Z : Language) (b : List ℕ) (remaining : ℕ) → Apart Z b
    → Fails (AnyOf A ⋅ Many A Z) b remaining → Fails (Many A Z) b remaining
Fails-many A Z b remaining a f = Fails-or (AnyOf A ⋅ Many A Z) Z (Many A Z) b remaining (many_more A Z) (many_cases A Z)
    a f

pub item_fails : {V : Type 0} (A : V → Language) (Z : Language) (b t : List ℕ) (remaining : ℕ) → Z t → Apart Z b
    → Fails (AnyOf A) b remaining → Fails (Many A Z) b remaining
item_fails A Z b t remaining z a f = Fails-many A Z b remaining a
    (Fails-first (AnyOf A) (Many A Z) b t remaining (many_none A Z t z) f)

pub behind_item : {V : Type 0} (A : V → Language) (Z : Language) (b rest : List ℕ) (remaining : ℕ)
    → IsPrefixFree (AnyOf A) → Apart Z b → Follows (AnyOf A) b rest → Fails (Many A Z) rest remaining
    → Fails (Many A Z) b remaining
behind_item A Z b rest remaining one a f g =
    Fails-many A Z b remaining a (Fails-later (AnyOf A) (Many A Z) b rest remaining one f g)

-- ---- no text is a proper prefix of another

one_many : {V : Type 0} (A : V → Language) (Z : Language) → IsPrefixFree (AnyOf A) → IsPrefixFree Z
    → ((p s q t : List ℕ) → AnyOf A p → Z q → p ++ s ≡ q ++ t → ⊥)
    → (vs ws : List V) (a c s b d t : List ℕ) → Each A vs a → Z c → Each A ws b → Z d → a ++ (c ++ s) ≡ b ++ (d ++ t)
    → (a ≡ b) × (c ≡ d)
one_many A Z oneA oneZ apart [] [] a c s b d t h z k y e =
    let same : c ++ s ≡ d ++ t = ap (λ (x : List ℕ). x ++ (c ++ s)) (sym h) ∙ e ∙ ap (λ (x : List ℕ). x ++ (d ++ t)) k
    in
    (h ∙ sym k, oneZ c s d t z y same)
one_many A Z oneA oneZ apart [] (w ∷ ws) a c s b d t h z (p, q, f, k, l) y e =
    absurd (apart p (q ++ (d ++ t)) c s (w, k) z
    (sym (append_assoc p q (d ++ t)) ∙ ap (λ (x : List ℕ). x ++ (d ++ t)) (sym f) ∙ sym e
    ∙ ap (λ (x : List ℕ). x ++ (c ++ s)) h))
one_many A Z oneA oneZ apart (v ∷ vs) [] a c s b d t (p, q, f, k, l) z h y e =
    absurd (apart p (q ++ (c ++ s)) d t (v, k) y
    (sym (append_assoc p q (c ++ s)) ∙ ap (λ (x : List ℕ). x ++ (c ++ s)) (sym f) ∙ e
    ∙ ap (λ (x : List ℕ). x ++ (d ++ t)) h))
one_many A Z oneA oneZ apart (v ∷ vs) (w ∷ ws) a c s b d t (p, q, f, k, l) z (p', q', f', k', l') y e =
    let left : a ++ (c ++ s) ≡ p ++ (q ++ (c ++ s)) = ap (λ (x : List ℕ). x ++ (c ++ s)) f ∙ append_assoc p q (c ++ s)
    in
    let right : b ++ (d ++ t) ≡ p' ++ (q' ++ (d ++ t)) =
    ap (λ (x : List ℕ). x ++ (d ++ t)) f' ∙ append_assoc p' q' (d ++ t) in
    let same : p ≡ p' = oneA p (q ++ (c ++ s)) p' (q' ++ (d ++ t)) (v, k) (w, k') (sym left ∙ e ∙ right) in
    let rests : q ++ (c ++ s) ≡ q' ++ (d ++ t) =
    append_cancel_left p (q ++ (c ++ s)) (q' ++ (d ++ t))
    (sym left ∙ e ∙ right ∙ ap (λ (x : List ℕ). x ++ (q' ++ (d ++ t))) (sym same)) in
    let deeper = one_many A Z oneA oneZ apart vs ws q c s q' d t l z l' y rests in
    (f ∙ ap (λ (x : List ℕ). x ++ q) same ∙ ap (λ (x : List ℕ). p' ++ x) deeper.0 ∙ sym f', deeper.1)

pub IsPrefixFree-many : {V : Type 0} (A : V → Language) (Z : Language) → IsPrefixFree (AnyOf A) → IsPrefixFree Z
    → ((p s q t : List ℕ) → AnyOf A p → Z q → p ++ s ≡ q ++ t → ⊥) → IsPrefixFree (Many A Z)
IsPrefixFree-many A Z oneA oneZ apart p s q t (a, c, e, (vs, h), z) (b, d, f, (ws, k), y) g =
    let both = one_many A Z oneA oneZ apart vs ws a c s b d t h z k y
    (sym (append_assoc a c s) ∙ ap (λ (x : List ℕ). x ++ s) (sym e) ∙ g ∙ ap (λ (x : List ℕ). x ++ t) f
    ∙ append_assoc b d t) in
    e ∙ ap (λ (x : List ℕ). x ++ c) both.0 ∙ ap (λ (x : List ℕ). b ++ x) both.1 ∙ sym f
