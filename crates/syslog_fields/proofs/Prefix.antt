-- Texts by their first octet.
use Rattle.std.proofs.Common.{◌≡◌, ℕ, List, [], ◌∷◌, ◌++◌, length, refl, sym, ap, subst, ◌∙◌}
use Rattle.std.specs.Prelude.{Result, Ok, Err}
use Rattle.octet_language.specs.Language.{Language, Begins, Refuses, NoPrefix, IfFirst}
use Rattle.octet_language.specs.Reading.{Fails, Passes}
use Rattle.octet_language.proofs.Lists.{heads, tails}
use Rattle.octet_language.proofs.FirstOctet.{refuses_alike, refuses_behind}

none_behind : (L M : Language) (x : ℕ) (b : List ℕ) → ((s : List ℕ) → M (x ∷ s) → L s) → ¬ (M []) → NoPrefix L b
    → NoPrefix M (x ∷ b)
none_behind L M x b from some none [] y e m = some m
none_behind L M x b from some none (z ∷ u) y e m =
    none u y (tails x z b (u ++ y) e) (from u (subst (λ (n : ℕ). M (n ∷ u)) (sym (heads x z b (u ++ y) e)) m))

-- where the texts of M that begin with x go on as those of L
pub Passes-behind : {X E : Type 0} (at : E → ℕ) (L M : Language) (x : ℕ) (b rest : List ℕ) (view : X
    → List ℕ) (r : Result X E)
    → ((s : List ℕ) → M (x ∷ s) → L s) → ((s : List ℕ) → L s → M (x ∷ s)) → ¬ (M []) → b ≡ x ∷ rest
    → Passes at L view rest r → Passes at M view b r
Passes-behind at L M x b rest view (Ok y) from to some e (t, f, h) = (x ∷ t, e ∙ ap (λ (k : List ℕ). x ∷ k) f, to t h)
Passes-behind at L M x b rest view (Err s) from to some e f = rw e (record {
  none = none_behind L M x rest from some f.none;
  stops = record {
    read = x ∷ f.stops.read;
    rest = f.stops.rest;
    parts = ap (λ (k : List ℕ). x ∷ k) f.stops.parts;
    count = f.stops.count;
    begins = (f.stops.begins.0, to (f.stops.read ++ f.stops.begins.0) f.stops.begins.1);
    refuses = refuses_behind L M x f.stops.read f.stops.rest from f.stops.refuses;
  };
})

-- ---- where the texts of two languages that begin with one octet are alike

alike_begins : (L M : Language) (x : ℕ) (b p rest t : List ℕ) → ((s : List ℕ) → L (x ∷ s) → M (x ∷ s))
    → x ∷ b ≡ p ++ rest → M t → Begins L p → Begins M p
alike_begins L M x b [] rest t to e some (more, l) = (t, some)
alike_begins L M x b (z ∷ p) rest t to e some (more, l) =
    let head = heads x z b (p ++ rest) e in (
      more,
      subst (λ (n : ℕ). M (n ∷ p ++ more)) head
          (to (p ++ more) (subst (λ (n : ℕ). L (n ∷ p ++ more)) (sym head) l)),
    )

alike_none : (L M : Language) (x : ℕ) (b : List ℕ) → ((s : List ℕ) → M (x ∷ s) → L (x ∷ s)) → ¬ (M [])
    → NoPrefix L (x ∷ b) → NoPrefix M (x ∷ b)
alike_none L M x b from some none [] v e m = some m
alike_none L M x b from some none (z ∷ u) v e m =
    let head = heads x z b (u ++ v) e in
    none (z ∷ u) v e (subst (λ (n : ℕ). L (n ∷ u)) head (from u (subst (λ (n : ℕ). M (n ∷ u)) (sym head) m)))

pub Passes-alike : {X E : Type 0} (at : E → ℕ) (L M : Language) (x : ℕ) (b rest t : List ℕ) (view : X
    → List ℕ) (r : Result X E)
    → ((s : List ℕ) → M (x ∷ s) → L (x ∷ s)) → ((s : List ℕ) → L (x ∷ s) → M (x ∷ s)) → ¬ (L []) → ¬ (M []) → M t
    → b ≡ x ∷ rest → Passes at L view b r → Passes at M view b r
Passes-alike at L M x b rest t view (Ok y) from to someL some text e ([], f, h) = absurd (someL h)
Passes-alike at L M x b rest t view (Ok y) from to someL some text e (z ∷ u, f, h) =
    let head = heads x z rest (u ++ view y) (sym e ∙ f) in
    (z ∷ u, f, subst (λ (n : ℕ). M (n ∷ u)) head (to u (subst (λ (n : ℕ). L (n ∷ u)) (sym head) h)))
Passes-alike at L M x b rest t view (Err s) from to someL some text e f = record {
  none = subst (NoPrefix M) (sym e) (alike_none L M x rest from some (subst (NoPrefix L) e f.none));
  stops = record {
    read = f.stops.read;
    rest = f.stops.rest;
    parts = f.stops.parts;
    count = f.stops.count;
    begins = alike_begins L M x rest f.stops.read f.stops.rest t to (sym e ∙ f.stops.parts) text f.stops.begins;
    refuses = refuses_alike L M x rest f.stops.read f.stops.rest from (sym e ∙ f.stops.parts) f.stops.refuses;
  };
}

-- ---- the same of failures alone

-- where the texts of M that begin with x go on as those of L
pub Fails-behind : (L M : Language) (x : ℕ) (b rest : List ℕ) (remaining : ℕ) → ((s : List ℕ) → M (x ∷ s) → L s)
    → ((s : List ℕ) → L s → M (x ∷ s)) → ¬ (M []) → b ≡ x ∷ rest → Fails L rest remaining → Fails M b remaining
Fails-behind L M x b rest remaining from to some e f =
    Passes-behind {X = List ℕ} (λ n. n) L M x b rest (λ r. r) (Err remaining) from to some e f

-- where the texts of M that begin with x are those of L
pub Fails-alike : (L M : Language) (x : ℕ) (b rest t : List ℕ) (remaining : ℕ) → ((s : List ℕ) → M (x ∷ s) → L (x ∷ s))
    → ((s : List ℕ) → L (x ∷ s) → M (x ∷ s)) → ¬ (L []) → ¬ (M []) → M t → b ≡ x ∷ rest → Fails L b remaining
    → Fails M b remaining
Fails-alike L M x b rest t remaining from to someL some text e f =
    Passes-alike {X = List ℕ} (λ n. n) L M x b rest t (λ r. r) (Err remaining) from to someL some text e f

prefix_refuses : (L : Language) (b : List ℕ) → IfFirst (λ x. (s : List ℕ) → ¬ (L (x ∷ s))) b → Refuses L [] b
prefix_refuses L [] h = tt
prefix_refuses L (x ∷ b) h = λ (more, k). h more k

prefix_none : (L : Language) (b : List ℕ) → ¬ (L []) → IfFirst (λ x. (s : List ℕ) → ¬ (L (x ∷ s))) b → NoPrefix L b
prefix_none L b some h [] y e k = some k
prefix_none L [] some h (z ∷ u) y e k = absurd cc
prefix_none L (x ∷ b) some h (z ∷ u) y e k = h u (subst (λ (n : ℕ). L (n ∷ u)) (sym (heads x z b (u ++ y) e)) k)

-- at the end, or before an octet with which no text begins
pub Fails-prefix : (L : Language) (b t : List ℕ) → L t → ¬ (L []) → IfFirst (λ x. (s : List ℕ) → ¬ (L (x ∷ s))) b
    → Fails L b (length b)
Fails-prefix L b t some empty h = record {
  none = prefix_none L b empty h;
  stops =
      record { read = []; rest = b; parts = refl; count = refl; begins = (t, some); refuses = prefix_refuses L b h };
}
