-- Field after field: what a failing field says of the whole.
use Rattle.std.proofs.Common.{◌≡◌, ℕ, List, [], ◌∷◌, ◌++◌, ◌<◌, length, refl, sym, ap, subst, ◌∙◌, append_assoc, arith}
use Rattle.std.specs.Prelude.{Result, Ok, Err}
use Rattle.std.proofs.lemmas.List.{length-append, append-nil}
use Rattle.octet_language.specs.Language.{Language, Only, ◌⋅◌, AnyOf, IsPrefixFree, Stops, Refuses}
use Rattle.octet_language.specs.Reading.{Fails, Follows, Passes, Reads}
use Rattle.octet_language.proofs.Lists.{one_more}
use Rattle.octet_language.proofs.Sequence.{NoPrefix-first, Stops-first, NoPrefix-later, Stops-later}

-- a language of one text is prefix-free
pub IsPrefixFree-only : (a : List ℕ) → IsPrefixFree (Only a)
IsPrefixFree-only a p s q t g h e = g ∙ sym h

-- two languages with the same texts stop alike
pub Fails-same : (L M : Language) (b : List ℕ) (remaining : ℕ) → ((s : List ℕ) → L s → M s) → ((s : List ℕ) → M s → L s)
    → Fails L b remaining → Fails M b remaining
Fails-same L M b remaining to from f = record {
  none = λ x y e h. f.none x y e (from x h);
  stops = record {
    read = f.stops.read;
    rest = f.stops.rest;
    parts = f.stops.parts;
    count = f.stops.count;
    begins = (f.stops.begins.0, to (f.stops.read ++ f.stops.begins.0) f.stops.begins.1);
    refuses = same_refuses f.stops.read f.stops.rest f.stops.refuses;
  };
}
  where
    same_refuses : (p rest : List ℕ) → Refuses L p rest → Refuses M p rest
    same_refuses p [] r = tt
    same_refuses p (x ∷ rest) r = λ (more, h). r (more, from ((p ++ x ∷ []) ++ more) h)

pub IsPrefixFree-same : (L M : Language) → ((s : List ℕ) → M s → L s) → IsPrefixFree L → IsPrefixFree M
IsPrefixFree-same L M from one p s q t h k e = one p s q t (from p h) (from q k) e

-- ---- where the values are in a sequence

pub Fails-first_value : {V : Type 0} (A : V → Language) (B : Language) (b : List ℕ) (remaining : ℕ)
    → Fails (AnyOf A ⋅ B) b remaining → Fails (AnyOf (λ v. A v ⋅ B)) b remaining
Fails-first_value A B b remaining f =
    Fails-same (AnyOf A ⋅ B) (AnyOf (λ v. A v ⋅ B)) b remaining
    (λ s h. (h.3.0, (h.0, h.1, h.2, h.3.1, h.4)))
    (λ s h. (h.1.0, h.1.1, h.1.2, (h.0, h.1.3), h.1.4))
    f

pub Fails-second_value : {V : Type 0} (A : Language) (B : V → Language) (b : List ℕ) (remaining : ℕ)
    → Fails (A ⋅ AnyOf B) b remaining → Fails (AnyOf (λ v. A ⋅ B v)) b remaining
Fails-second_value A B b remaining f =
    Fails-same (A ⋅ AnyOf B) (AnyOf (λ v. A ⋅ B v)) b remaining
    (λ s h. (h.4.0, (h.0, h.1, h.2, h.3, h.4.1)))
    (λ s h. (h.1.0, h.1.1, h.1.2, h.1.3, (h.0, h.1.4)))
    f

-- the first fails, so the two fail there
pub Fails-first : (A B : Language) (b t : List ℕ) (remaining : ℕ) → B t → Fails A b remaining
    → Fails (A ⋅ B) b remaining
Fails-first A B b t remaining some f = record {
  none = NoPrefix-first A B b f.none;
  stops =
      Stops-first A B b remaining t some f.none f.stops;
}

-- after a text of the first, the two fail where the second fails
pub Fails-later : (A B : Language) (b rest : List ℕ) (remaining : ℕ) → IsPrefixFree A → Follows A b rest
    → Fails B rest remaining → Fails (A ⋅ B) b remaining
Fails-later A B b rest remaining one a f = record {
  none = NoPrefix-later A B b a.0 rest one a.2 a.1 f.none;
  stops = Stops-later A B b a.0 rest remaining one a.2 a.1 f.stops;
}

-- a text of each, one after the other
pub Follows-then : (A B : Language) (b behind rest : List ℕ) → Follows A b behind → Follows B behind rest
    → Follows (A ⋅ B) b rest
Follows-then A B b behind rest f g = (
  f.0 ++ g.0,
  f.1 ∙ ap (λ (k : List ℕ). f.0 ++ k) g.1
      ∙ sym (append_assoc f.0 g.0 rest),
  (f.0, g.0, refl, f.2, g.2),
)

-- a reader of the second, called after a text of the first, reads the two
pub Reads-later : {V X E : Type 0} (at : E → ℕ) (A : Language) (B : V → Language) (view : X
    → V × List ℕ) (b behind : List ℕ) (r : Result X E) → IsPrefixFree A → Follows A b behind → Reads at B view behind r
    → Reads at (λ v. A ⋅ B v) view b r
Reads-later at A B view b behind (Ok x) one f g = Follows-then A (B (view x).0) b behind (view x).1 f g
Reads-later at A B view b behind (Err e) one f g =
    Fails-second_value A B b (at e) (Fails-later A (AnyOf B) b behind (at e) one f g)

-- ---- a chain of fields

-- where the texts of N fail in the rest, those of L fail in b
abbrev pub Behind : Language → List ℕ → Language → List ℕ → Type 0
Behind L b N rest = (remaining : ℕ) → Fails N rest remaining → Fails L b remaining

-- after one more field
pub further : (L A N : Language) (b behind rest : List ℕ) → IsPrefixFree A → Behind L b (A ⋅ N) behind
    → Follows A behind rest → Behind L b N rest
further L A N b behind rest one k f = λ remaining g. k remaining (Fails-later A N behind rest remaining one f g)

-- the next field fails
pub fails_here : (L A N : Language) (b rest t : List ℕ) (remaining : ℕ) → N t → Behind L b (A ⋅ N) rest
    → Fails A rest remaining → Fails L b remaining
fails_here L A N b rest t remaining some k f = k remaining (Fails-first A N rest t remaining some f)

pub Passes-later : {X E : Type 0} (at : E → ℕ) (A B : Language) (view : X → List ℕ) (b behind : List ℕ) (r : Result X E)
    → IsPrefixFree A → Follows A b behind → Passes at B view behind r → Passes at (A ⋅ B) view b r
Passes-later at A B view b behind (Ok x) one f g = Follows-then A B b behind (view x) f g
Passes-later at A B view b behind (Err e) one f g = Fails-later A B b behind (at e) one f g

pub some_value : {V : Type 0} (A : V → Language) (v : V) (b rest : List ℕ) → Follows (A v) b rest
    → Follows (AnyOf A) b rest
some_value A v b rest f = (f.0, f.1, (v, f.2))

-- ---- the end of the input

-- octets after a whole text of a prefix-free language
Refuses-behind : (L : Language) (t rest : List ℕ) → IsPrefixFree L → L t → Refuses L t rest
Refuses-behind L t [] one h = tt
Refuses-behind L t (x ∷ rest) one h = λ (more, k).
    let same : t ≡ (t ++ x ∷ []) ++ more = one t (x ∷ more) ((t ++ x ∷ []) ++ more) [] h k
    (sym (one_more t x more) ∙ sym (append-nil ((t ++ x ∷ []) ++ more))) in
    omega (arith, ap length same, length-append (t ++ x ∷ []) more, length-append t (x ∷ []))

pub trailing : (L : Language) (b rest : List ℕ) → IsPrefixFree L → Follows L b rest → 0 < length rest
    → Stops L b (length rest) × ¬ (L b)
trailing L b rest one (t, e, h) more = (
  record {
    read = t;
    rest = rest;
    parts = e;
    count = refl;
    begins = ([], subst L (sym (append-nil t)) h);
    refuses =
        Refuses-behind L t rest one h;
  },
  λ w.
      let same : t ≡ b = one t rest b [] h w (sym e ∙ sym (append-nil b)) in
      omega (arith, ap length e, length-append t rest, ap length same, more),
)

pub at_end : (L : Language) (b rest : List ℕ) → Follows L b rest → length rest ≡ 0 → L b
at_end L b [] (t, e, h) none = subst L (sym (e ∙ append-nil t)) h
at_end L b (x ∷ rest) (t, e, h) none = absurd (omega arith)
