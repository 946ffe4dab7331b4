-- Where an unfinished text stops, and a text up to the delimiter that follows it.
use Rattle.std.proofs.Common.{◌≡◌, ◌≢◌, ℕ, List, [], ◌∷◌, ◌++◌, length, refl, sym, ap, subst, ◌∙◌, append_assoc, arith}
use Rattle.std.proofs.Common.{inl, inr}
use Rattle.std.specs.List.{AllByRecursion}
use Rattle.std.proofs.lemmas.List.{length-append, append-nil}
use Rattle.octet_language.specs.Language.{Language, Only, ◌⋅◌, Refuses, NoPrefix, IsPrefixFree, IfFirst}
use Rattle.octet_language.specs.Reading.{Fails}
use Rattle.octet_language.proofs.Lists.{parted, one_more, heads, tails, same_until, AllByRecursion-left}

-- no text ends within p, where a text continues p
within : (L : Language) (p m a w : List ℕ) (y : ℕ) → IsPrefixFree L → L (p ++ y ∷ m) → p ≡ a ++ w → L a → ⊥
within L p m a w y one h e la =
    let same : a ≡ p ++ y ∷ m = one a (w ++ y ∷ m) (p ++ y ∷ m) [] la h
    (sym (append_assoc a w (y ∷ m)) ∙ ap (λ (s : List ℕ). s ++ y ∷ m) (sym e) ∙ sym (append-nil (p ++ y ∷ m))) in
    omega (arith, ap length same, ap length e, length-append p (y ∷ m), length-append a w)

NoPrefix-from_unfinished : (L : Language) (p rest m : List ℕ) (y : ℕ) → IsPrefixFree L → L (p ++ y ∷ m)
    → Refuses L p rest → NoPrefix L (p ++ rest)
NoPrefix-from_unfinished L p [] m y one h r a b e la = within L p m a b y one h (sym (append-nil p) ∙ e) la
NoPrefix-from_unfinished L p (x ∷ rest) m y one h r a b e la =
    elim (parted a b p x rest (sym e)) [
      | inl z ↦ r (z.0, subst L (z.1 ∙ sym (one_more p x z.0)) la)
      | inr w ↦ within L p m a w.0 y one h w.1 la
    ]

-- a text continues p, but none with what is left: there a text of the language stops
pub Fails-from_unfinished : (L : Language) (b p rest m : List ℕ) (y : ℕ) → IsPrefixFree L → b ≡ p ++ rest
    → L (p ++ y ∷ m) → Refuses L p rest → Fails L b (length rest)
Fails-from_unfinished L b p rest m y one e h r = record {
  none = subst (NoPrefix L) (sym e) (NoPrefix-from_unfinished L p rest m y one h r);
  stops = record { read = p; rest = rest; parts = e; count = refl; begins = (y ∷ m, h); refuses = r };
}

-- ---- up to a delimiter

-- a language whose texts are free of a delimiter, and the delimiter that follows them
pub IsPrefixFree-delimited : (L : Language) (x : ℕ) → ((a : List ℕ) → L a → AllByRecursion (λ y. y ≢ x) a)
    → IsPrefixFree (L ⋅ Only (x ∷ []))
IsPrefixFree-delimited L x free p s q t g h e =
    let left : p ++ s ≡ g.0 ++ x ∷ s = ap (λ (k : List ℕ). k ++ s) (g.2 ∙ ap (λ (k : List ℕ). g.0 ++ k) g.4)
    ∙ one_more g.0 x s in
    let right : q ++ t ≡ h.0 ++ x ∷ t = ap (λ (k : List ℕ). k ++ t) (h.2 ∙ ap (λ (k : List ℕ). h.0 ++ k) h.4)
    ∙ one_more h.0 x t in
    let same = same_until x g.0 h.0 s t (free g.0 g.3) (free h.0 h.3) (sym left ∙ e ∙ right) in
    g.2 ∙ ap (λ (k : List ℕ). g.0 ++ k) g.4 ∙ ap (λ (k : List ℕ). k ++ x ∷ []) same
    ∙ ap (λ (k : List ℕ). h.0 ++ k) (sym h.4) ∙ sym h.2

last_octet : (w m : List ℕ) (x y : ℕ) → w ++ y ∷ m ≡ x ∷ [] → (w ≡ []) × (y ≡ x)
last_octet [] m x y e = (refl, heads y x m [] e)
last_octet (c ∷ w) m x y e = absurd (omega (arith, ap length (tails c x (w ++ y ∷ m) [] e), length-append w (y ∷ m)))

-- with the delimiter that follows, octets are refused that neither continue a text nor delimit it
Refuses-delimited : (L : Language) (x : ℕ) (p rest : List ℕ) → Refuses L p rest → IfFirst (λ y. y ≡ x → ¬ (L p)) rest
    → Refuses (L ⋅ Only (x ∷ [])) p rest
Refuses-delimited L x p [] r early = tt
Refuses-delimited L x p (y ∷ rest) r early = λ (more, h).
    elim (parted h.0 h.1 p y more (sym h.2 ∙ one_more p y more)) [
      | inl z ↦ r (z.0, subst L (z.1 ∙ sym (one_more p y z.0)) h.3)
      | inr w ↦
          let last = last_octet w.0 more x y (sym w.2 ∙ h.4) in
          early last.1 (subst L (sym (w.1 ∙ ap (λ (k : List ℕ). h.0 ++ k) last.0 ∙ append-nil h.0)) h.3)
    ]

unfinished : (L : Language) (x : ℕ) (p m : List ℕ) → L (p ++ m)
    → (y : ℕ) × (k : List ℕ) × (L ⋅ Only (x ∷ [])) (p ++ y ∷ k)
unfinished L x p [] h = (x, [], (p ++ [], x ∷ [], sym (append_assoc p [] (x ∷ [])), h, refl))
unfinished L x p (y ∷ m) h = (y, m ++ x ∷ [], (p ++ y ∷ m, x ∷ [], sym (append_assoc p (y ∷ m) (x ∷ [])), h, refl))

-- where a text and the delimiter that follows it stop
pub Fails-delimited : (L : Language) (x : ℕ) (b p rest m : List ℕ)
    → ((a : List ℕ) → L a → AllByRecursion (λ y. y ≢ x) a) → b ≡ p ++ rest → L (p ++ m) → Refuses L p rest
    → IfFirst (λ y. y ≡ x → ¬ (L p)) rest → Fails (L ⋅ Only (x ∷ [])) b (length rest)
Fails-delimited L x b p rest m free e h r early =
    let u = unfinished L x p m h in
    Fails-from_unfinished (L ⋅ Only (x ∷ [])) b p rest u.1 u.0 (IsPrefixFree-delimited L x free) e u.2
    (Refuses-delimited L x p rest r early)

-- what is read of a field before it fails contains no space, where the field's texts contain none
pub free_read : (L : Language) (x : ℕ) (b : List ℕ) (remaining : ℕ)
    → ((a : List ℕ) → L a → AllByRecursion (λ y. y ≢ x) a) → (f : Fails (L ⋅ Only (x ∷ [])) b remaining)
    → AllByRecursion (λ y. y ≢ x) f.stops.read
free_read L x b remaining free f =
    let s = f.stops in
    let g = s.begins.1 in
    elim (parted s.read s.begins.0 g.0 x [] (g.2 ∙ ap (λ (k : List ℕ). g.0 ++ k) g.4)) [
      | inl z ↦
          let prefix : b ≡ (g.0 ++ x ∷ []) ++ (z.0 ++ s.rest) =
          s.parts ∙ ap (λ (k : List ℕ). k ++ s.rest) z.1 ∙ append_assoc g.0 (x ∷ z.0) s.rest
          ∙ sym (one_more g.0 x (z.0 ++ s.rest)) in
          absurd (f.none (g.0 ++ x ∷ []) (z.0 ++ s.rest) prefix (g.0, x ∷ [], refl, g.3, refl))
      | inr w ↦ AllByRecursion-left (λ y. y ≢ x) s.read w.0 (subst (AllByRecursion (λ y. y ≢ x)) w.1 (free g.0 g.3))
    ]
