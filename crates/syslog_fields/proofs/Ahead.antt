-- A text whose end shows only in the octet after it.
use Rattle.std.proofs.Common.{◌≡◌, ℕ, List, [], ◌∷◌, ◌++◌, refl, sym, ap, subst, ◌∙◌, append_assoc}
use Rattle.std.specs.List.{AllByRecursion}
use Rattle.std.proofs.lemmas.List.{append_cancel_left}
use Rattle.octet_language.specs.Language.{Language, ◌⋅◌, Refuses, IsPrefixFree, IfFirst}
use Rattle.octet_language.specs.Reading.{Fails, Follows, Misses}
use Rattle.octet_language.proofs.Lists.{heads, tails, one_more}

-- where a text comes first, and after it an octet that may follow, no other does
abbrev pub OneAhead : Language → (ℕ → Type 0) → Type 0
OneAhead A N = (p s q t : List ℕ) → A p → A q → IfFirst N s → IfFirst N t → p ++ s ≡ q ++ t → p ≡ q

-- each text has a first octet, and it may follow
abbrev pub StartsIn : (ℕ → Type 0) → Language → Type 0
StartsIn N B = (s : List ℕ) → B s → (x : ℕ) × (t : List ℕ) × (s ≡ x ∷ t) × N x

-- the first octet of each text that has one may follow
abbrev pub MayStartIn : (ℕ → Type 0) → Language → Type 0
MayStartIn N B = (s : List ℕ) → B s → IfFirst N s

prefix_of : (N : ℕ → Type 0) (r u v : List ℕ) (x : ℕ) → IfFirst N (r ++ x ∷ u) → IfFirst N (r ++ x ∷ v)
prefix_of N [] u v x h = h
prefix_of N (y ∷ r) u v x h = h

pub starts_prefix : (N : ℕ → Type 0) (B : Language) (s y : List ℕ) → StartsIn N B → B s → IfFirst N (s ++ y)
starts_prefix N B s y starts h =
    let k = starts s h in
    subst (λ (u : List ℕ). IfFirst N (u ++ y)) (sym k.2) k.3

pub may_start : (N : ℕ → Type 0) (B : Language) → StartsIn N B → MayStartIn N B
may_start N B starts s h = let k = starts s h in subst (IfFirst N) (sym k.2) k.3

Refuses-ahead : (A B : Language) (N : ℕ → Type 0) (p r rest : List ℕ) → OneAhead A N → MayStartIn N B → A p
    → IfFirst N (r ++ rest) → Refuses B r rest → Refuses (A ⋅ B) (p ++ r) rest
Refuses-ahead A B N p r [] one may a f h = tt
Refuses-ahead A B N p r (x ∷ rest) one may a f h = λ (more, (q, s, e, k, l)).
    let whole : p ++ (r ++ x ∷ more) ≡ q ++ s = sym (append_assoc p r (x ∷ more)) ∙ sym (one_more (p ++ r) x more) ∙ e
    in
    let same : p ≡ q = one p (r ++ x ∷ more) q s a k (prefix_of N r rest more x f) (may s l) whole in
    let rests : r ++ x ∷ more ≡ s = append_cancel_left p (r ++ x ∷ more) s
    (whole ∙ ap (λ (u : List ℕ). u ++ s) (sym same)) in
    h (more, subst B (sym rests ∙ sym (one_more r x more)) l)

-- after a text of the first, the two fail where the second fails
pub Fails-ahead : (A B : Language) (N : ℕ → Type 0) (b rest : List ℕ) (remaining : ℕ) → OneAhead A N → StartsIn N B
    → Follows A b rest → IfFirst N rest → Fails B rest remaining → Fails (A ⋅ B) b remaining
Fails-ahead A B N b rest remaining one starts (p, e, a) n f = record {
  none = λ x y d (q, s, g, k, l).
      let whole : p ++ rest ≡ q ++ (s ++ y) = sym e ∙ d ∙ ap (λ (u : List ℕ). u ++ y) g ∙ append_assoc q s y in
      let same : p ≡ q = one p rest q (s ++ y) a k n (starts_prefix N B s y starts l) whole in
      f.none s y (append_cancel_left p rest (s ++ y) (whole ∙ ap (λ (u : List ℕ). u ++ (s ++ y)) (sym same))) l;
  stops = record {
    read = p ++ f.stops.read;
    rest = f.stops.rest;
    parts = e ∙ ap (λ (u : List ℕ). p ++ u) f.stops.parts ∙ sym (append_assoc p f.stops.read f.stops.rest);
    count = f.stops.count;
    begins = (
      f.stops.begins.0,
      (
        p,
        f.stops.read ++ f.stops.begins.0,
        append_assoc p f.stops.read f.stops.begins.0,
        a,
        f.stops.begins.1,
      ),
    );
    refuses = Refuses-ahead A B N p f.stops.read f.stops.rest one (may_start N B starts) a
        (subst (IfFirst N) f.stops.parts n) f.stops.refuses;
  };
}

-- after a text of the first, the two hold no whole text where the second holds none
pub Misses-ahead : (A B : Language) (N : ℕ → Type 0) (b rest : List ℕ) (remaining : ℕ) → OneAhead A N → MayStartIn N B
    → Follows A b rest → IfFirst N rest → Misses B rest remaining → Misses (A ⋅ B) b remaining
Misses-ahead A B N b rest remaining one may (p, e, a) n f = record {
  none = λ (q, s, g, k, l).
      let whole : p ++ rest ≡ q ++ s = sym e ∙ g in
      let same : p ≡ q = one p rest q s a k n (may s l) whole in
      f.none (subst B (sym (append_cancel_left p rest s (whole ∙ ap (λ (u : List ℕ). u ++ s) (sym same)))) l);
  stops = record {
    read = p ++ f.stops.read;
    rest = f.stops.rest;
    parts = e ∙ ap (λ (u : List ℕ). p ++ u) f.stops.parts ∙ sym (append_assoc p f.stops.read f.stops.rest);
    count = f.stops.count;
    begins = (
      f.stops.begins.0,
      (
        p,
        f.stops.read ++ f.stops.begins.0,
        append_assoc p f.stops.read f.stops.begins.0,
        a,
        f.stops.begins.1,
      ),
    );
    refuses = Refuses-ahead A B N p f.stops.read f.stops.rest one may a (subst (IfFirst N) f.stops.parts n)
        f.stops.refuses;
  };
}

pub IsPrefixFree-ahead : (A B : Language) (N : ℕ → Type 0) → OneAhead A N → StartsIn N B → IsPrefixFree B
    → IsPrefixFree (A ⋅ B)
IsPrefixFree-ahead A B N one starts second p s q t (x, y, e, a, b) (z, w, f, c, d) g =
    let whole : x ++ (y ++ s) ≡ z ++ (w ++ t) =
    sym (append_assoc x y s) ∙ ap (λ (u : List ℕ). u ++ s) (sym e) ∙ g ∙ ap (λ (u : List ℕ). u ++ t) f
    ∙ append_assoc z w t in
    let same : x ≡ z = one x (y ++ s) z (w ++ t) a c (starts_prefix N B y s starts b) (starts_prefix N B w t starts d)
    whole in
    let rests : y ++ s ≡ w ++ t = append_cancel_left x (y ++ s) (w ++ t)
    (whole ∙ ap (λ (u : List ℕ). u ++ (w ++ t)) (sym same)) in
    let seconds : y ≡ w = second y s w t b d rests in
    e ∙ ap (λ (u : List ℕ). u ++ y) same ∙ ap (λ (u : List ℕ). z ++ u) seconds ∙ sym f

-- octets of a class, up to one that is not of it
pub same_run : (C : ℕ → Type 0) (a b s t : List ℕ) → AllByRecursion C a → AllByRecursion C b → IfFirst (λ x. C x → ⊥) s
    → IfFirst (λ x. C x → ⊥) t → a ++ s ≡ b ++ t → a ≡ b
same_run C [] [] s t p q u v e = refl
same_run C [] (y ∷ b) [] t p q u v e = absurd cc
same_run C [] (y ∷ b) (x ∷ s) t p q u v e = absurd (u (subst C (sym (heads x y s (b ++ t) e)) q.0))
same_run C (x ∷ a) [] s [] p q u v e = absurd cc
same_run C (x ∷ a) [] s (y ∷ t) p q u v e = absurd (v (subst C (heads x y (a ++ s) t e) p.0))
same_run C (x ∷ a) (y ∷ b) s t p q u v e =
    ap (λ (k : ℕ). k ∷ a) (heads x y (a ++ s) (b ++ t) e)
    ∙ ap (λ (k : List ℕ). y ∷ k) (same_run C a b s t p.1 q.1 u v (tails x y (a ++ s) (b ++ t) e))
