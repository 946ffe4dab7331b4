-- Structured data: where it ends and stops, and what the tail after it says of both.
use Rattle.std.proofs.Common.{◌≡◌, ◌≢◌, ℕ, List, [], ◌∷◌, ◌++◌, length, refl, sym, ap, subst, ◌∙◌, append_assoc, arith}
use Rattle.std.proofs.Common.{inl, inr, ◌⊎◌}
use Rattle.std.proofs.lemmas.List.{append_cancel_left, append-nil}
use Rattle.octet_language.specs.Language.{Language, Only, ◌⋅◌, AnyOf, Each, NoPrefix, IfFirst}
use Rattle.octet_language.specs.Reading.{Fails, Follows, Misses}
use Rattle.octet_language.proofs.Lists.{heads, tails}
use Rattle.octet_language.proofs.Chain.{Fails-first, Fails-later, Follows-then}
use Rattle.octet_language.proofs.Many.{Many, many_none, item_fails, behind_item}
use Rattle.octet_language.proofs.Whole.{Misses-field, Misses-behind, Misses-many}
use Rattle.syslog_value.specs.Parts.{ElementParts, AnyOctets}
use Rattle.std.proofs.Common.{take, drop}
use Rattle.std.specs.List.{AllByRecursion}
use Rattle.std.proofs.lemmas.List.{take_at}
use Rattle.syslog_value.specs.Parts.{IsNameOctet}
use Rattle.syslog_fields.specs.Grammar.{Element, StructuredDataText, MessagePart}
use Rattle.syslog_fields.specs.Spans.{StopsInElements, EndsStructuredData, StopsInStructuredData, ElementSpan}
use Rattle.syslog_fields.specs.Spans.{SpannedElement}
use Rattle.syslog_fields.proofs.Ahead.{OneAhead, MayStartIn, Misses-ahead}
use Rattle.syslog_fields.proofs.Loops.{apart_mark}
use Rattle.syslog_fields.proofs.ParamTexts.{IsPrefixFree-element, Fails-element, Follows-element, element_prefix}
use Rattle.syslog_fields.specs.FirstElements.{IsFirstId, IsIdLength}
use Rattle.syslog_fields.proofs.FirstElements.{id_ends}
use Rattle.octet_language.proofs.FirstOctet.{refuses_alike, refuses_behind}

abbrev AnyMessagePart : Language
AnyMessagePart = AnyOf MessagePart

abbrev Space : Language
Space = Only (32 ∷ [])

abbrev Elements : Language
Elements = AnyOf (Each Element)

abbrev WithTail : Language
WithTail = AnyOf Element ⋅ Many Element AnyMessagePart

abbrev WithSpace : Language
WithSpace = AnyOf Element ⋅ Many Element Space

-- a tail is empty or begins with a space
pub tail_prefix : (s : List ℕ) → AnyMessagePart s → (s ≡ []) ⊎ ((t : List ℕ) × (s ≡ 32 ∷ t))
tail_prefix s (m, inl (k, e)) = inl e
tail_prefix s (m, inr (x, y, e, h, k)) = inr (y, e ∙ ap (λ (u : List ℕ). u ++ y) h)

empty_tail : AnyMessagePart []
empty_tail = (AnyOctets [], inl (refl, refl))

no_tail : (b : List ℕ) (x : ℕ) (t s : List ℕ) → b ≡ x ∷ t → x ≡ 91 → s ≡ b → ¬ (AnyMessagePart s)
no_tail b x t s e f g h = elim (tail_prefix s h) [
  | inl k ↦ let i : ◌≡◌ {A = List ℕ} [] (x ∷ t) = sym k ∙ g ∙ e in absurd cc
  | inr k ↦ let i : 32 ≡ x = heads 32 x k.0 t (sym k.1 ∙ g ∙ e) in omega (arith, i, f)
]

no_tail_prefix : (b : List ℕ) (x : ℕ) (t p r more : List ℕ) (y : ℕ) → b ≡ x ∷ t → x ≡ 91 → b ≡ p ++ y ∷ r
    → ¬ (AnyMessagePart ((p ++ y ∷ []) ++ more))
no_tail_prefix b x t [] r more y e f g h = elim (tail_prefix (y ∷ more) h) [
  | inl k ↦ absurd cc
  | inr k ↦ let i : y ≡ 32 = heads y 32 more k.0 k.1 in let j : x ≡ y = heads x y t r (sym e ∙ g) in
      omega (arith, i, j, f)
]
no_tail_prefix b x t (z ∷ p) r more y e f g h = elim (tail_prefix (z ∷ (p ++ y ∷ []) ++ more) h) [
  | inl k ↦ absurd cc
  | inr k ↦ let i : z ≡ 32 = heads z 32 ((p ++ y ∷ []) ++ more) k.0 k.1 in let j : x ≡ z =
      heads x z t (p ++ y ∷ r) (sym e ∙ g) in omega (arith, i, j, f)
]

-- what follows the first elements, and the whole
pub record Goes (b rest : List ℕ) : Type 0 where
  pub good : Follows (AnyOf Element ⋅ Elements) b rest
  pub message_part : (remaining : ℕ) → Misses (Many Element AnyMessagePart) rest remaining → Misses WithTail b remaining
  pub space : (remaining : ℕ) → Fails (Many Element Space) rest remaining → Fails WithSpace b remaining

pub goes_first : (b rest : List ℕ) (v : ElementSpan) → Follows (SpannedElement v) b rest → Goes b rest
goes_first b rest v f =
    let g = Follows-element b rest v f in
    record {
      good = Follows-then (AnyOf Element) Elements b rest rest g ([], refl, ([], refl));
      message_part = λ remaining m. Misses-behind (AnyOf Element) (Many Element AnyMessagePart) b rest remaining
          IsPrefixFree-element g m;
      space = λ remaining m. Fails-later (AnyOf Element) (Many Element Space) b rest remaining IsPrefixFree-element g m;
    }

pub bad_first : (b : List ℕ) (remaining : ℕ) → Fails (AnyOf SpannedElement) b remaining → StopsInElements b remaining
bad_first b remaining f =
    let g = Fails-element b remaining f in
    record {
      message_part = Misses-field (AnyOf Element) (Many Element AnyMessagePart) b [] remaining
          (many_none Element AnyMessagePart [] empty_tail) g;
      space = (Fails-first (AnyOf Element) (Many Element Space) b (32 ∷ []) remaining
          (many_none Element Space (32 ∷ []) refl) g).none;
    }

-- one more element at the end
each_end : (es : List ElementParts) (e : ElementParts) (p q : List ℕ) → Each Element es p → Element e q
    → Elements (p ++ q)
each_end [] e p q h k = (e ∷ [], (q, [], ap (λ (u : List ℕ). u ++ q) h ∙ sym (append-nil q), k, refl))
each_end (f ∷ es) e p q (x, y, g, h, l) k =
    let r = each_end es e y q l k in
    (f ∷ r.0, (x, y ++ q, ap (λ (u : List ℕ). u ++ q) g ∙ append_assoc x y q, h, r.1))

more_good : (b rest after : List ℕ) → Follows (AnyOf Element ⋅ Elements) b rest → Follows (AnyOf Element) rest after
    → Follows (AnyOf Element ⋅ Elements) b after
more_good b rest after (t, e, (x, y, g, h, (es, k))) (u, f, (v, l)) = (
  t ++ u,
  e ∙ ap (λ (w : List ℕ). t ++ w) f
      ∙ sym (append_assoc t u after),
  (
    x,
    y ++ u,
    ap (λ (w : List ℕ). w ++ u) g
        ∙ append_assoc x y u,
    h,
    each_end es v y u k l,
  ),
)

space_apart : (b t : List ℕ) (x : ℕ) → b ≡ x ∷ t → x ≡ 91 → IfFirst (λ y. y ≢ 32) b
space_apart b t x e f = subst (IfFirst (λ y. y ≢ 32)) (sym e) (λ k. omega (arith, k, f))

pub goes_more : (b rest after t : List ℕ) (x : ℕ) (v : ElementSpan) → rest ≡ x ∷ t → x ≡ 91
    → Follows (SpannedElement v) rest after → Goes b rest → Goes b after
goes_more b rest after t x v e f g k =
    let h = Follows-element rest after v g in
    record {
      good = more_good b rest after k.good h;
      message_part = λ remaining m. k.message_part remaining
          (Misses-many Element AnyMessagePart rest remaining (no_tail rest x t rest e f refl)
          (λ p r more y d. no_tail_prefix rest x t p r more y e f d)
          (Misses-behind (AnyOf Element) (Many Element AnyMessagePart) rest after remaining IsPrefixFree-element h m));
      space = λ remaining m. k.space remaining
          (behind_item Element Space rest after remaining IsPrefixFree-element
          (apart_mark 32 rest (space_apart rest t x e f)) h m);
    }

pub goes_bad : (b rest t : List ℕ) (x remaining : ℕ) → rest ≡ x ∷ t → x ≡ 91
    → Fails (AnyOf SpannedElement) rest remaining → Goes b rest → StopsInElements b remaining
goes_bad b rest t x remaining e f g k =
    let h = Fails-element rest remaining g in
    record {
      message_part = k.message_part remaining (Misses-many Element AnyMessagePart rest remaining
          (no_tail rest x t rest e f refl) (λ p r more y d. no_tail_prefix rest x t p r more y e f d)
          (Misses-field (AnyOf Element) (Many Element AnyMessagePart) rest [] remaining
          (many_none Element AnyMessagePart [] empty_tail) h));
      space = (k.space remaining (item_fails Element Space rest (32 ∷ []) remaining refl
          (apart_mark 32 rest (space_apart rest t x e f)) h)).none;
    }

-- ---- the whole of it

-- by the first octet: NILVALUE, or elements
data_cases : (Z : Language) (s : List ℕ) → (AnyOf StructuredDataText ⋅ Z) s
    → ((t : List ℕ) × (s ≡ 45 ∷ t) × Z t) ⊎ (AnyOf Element ⋅ Many Element Z) s
data_cases Z s (x, y, e, ([], h), z) = inl (y, e ∙ ap (λ (u : List ℕ). u ++ y) h, z)
data_cases Z s (x, y, e, (d ∷ ds, (u, v, f, h, k)), z) =
    inr (u, v ++ y, e ∙ ap (λ (w : List ℕ). w ++ y) f ∙ append_assoc u v y, (d, h), (v, y, refl, (ds, k), z))

data_none : (Z : Language) (t : List ℕ) → Z t → (AnyOf StructuredDataText ⋅ Z) (45 ∷ t)
data_none Z t z = (45 ∷ [], t, refl, ([], refl), z)

data_some : (Z : Language) (s : List ℕ) → (AnyOf Element ⋅ Many Element Z) s → (AnyOf StructuredDataText ⋅ Z) s
data_some Z s (u, w, f, (d, h), (v, y, g, (ds, k), z)) =
    (u ++ v, y, f ∙ ap (λ (q : List ℕ). u ++ q) g ∙ sym (append_assoc u v y), (d ∷ ds, (u, v, refl, h, k)), z)

-- no element begins with a dash
nil_element : (Z : Language) (s t : List ℕ) → (AnyOf Element ⋅ Z) s → s ≡ 45 ∷ t → ⊥
nil_element Z s t (x, y, e, h, z) f =
    let k = element_prefix x h in
    let i : 91 ≡ 45 = heads 91 45 (k.0 ++ y) t (ap (λ (u : List ℕ). u ++ y) (sym k.1) ∙ sym e ∙ f) in
    omega (arith, i)

from_nil : (Z : Language) (t : List ℕ) → (AnyOf StructuredDataText ⋅ Z) (45 ∷ t) → Z t
from_nil Z t h = elim (data_cases Z (45 ∷ t) h) [
  | inl k ↦ subst Z (sym (tails 45 45 t k.0 k.1)) k.2
  | inr k ↦ absurd (nil_element (Many Element Z) (45 ∷ t) t k refl)
]

from_other : (Z : Language) (x : ℕ) (t : List ℕ) → x ≢ 45 → (AnyOf StructuredDataText ⋅ Z) (x ∷ t)
    → (AnyOf Element ⋅ Many Element Z) (x ∷ t)
from_other Z x t ne h = elim (data_cases Z (x ∷ t) h) [
  | inl k ↦ absurd (ne (heads x 45 t k.0 k.1))
  | inr k ↦ k
]

-- ---- misses, by the first octet

Misses-after : (L M : Language) (x : ℕ) (b rest : List ℕ) (remaining : ℕ) → ((s : List ℕ) → M (x ∷ s) → L s)
    → ((s : List ℕ) → L s → M (x ∷ s)) → b ≡ x ∷ rest → Misses L rest remaining → Misses M b remaining
Misses-after L M x b rest remaining from to e m = rw e (record {
  none = λ h. m.none (from rest h);
  stops = record {
    read = x ∷ m.stops.read;
    rest = m.stops.rest;
    parts = ap (λ (k : List ℕ). x ∷ k) m.stops.parts;
    count = m.stops.count;
    begins = (m.stops.begins.0, to (m.stops.read ++ m.stops.begins.0) m.stops.begins.1);
    refuses = refuses_behind L M x m.stops.read m.stops.rest from m.stops.refuses;
  };
})

Misses-alike : (L M : Language) (x : ℕ) (b rest : List ℕ) (remaining : ℕ) → ((s : List ℕ) → M (x ∷ s) → L (x ∷ s))
    → ((s : List ℕ) → L s → M s) → b ≡ x ∷ rest → Misses L b remaining → Misses M b remaining
Misses-alike L M x b rest remaining from to e m = record {
  none = λ h. m.none (subst L (sym e) (from rest (subst M e h)));
  stops = record {
    read = m.stops.read;
    rest = m.stops.rest;
    parts = m.stops.parts;
    count = m.stops.count;
    begins = (m.stops.begins.0, to (m.stops.read ++ m.stops.begins.0) m.stops.begins.1);
    refuses = refuses_alike L M x rest m.stops.read m.stops.rest from (sym e ∙ m.stops.parts) m.stops.refuses;
  };
}

NoPrefix-alike : (L M : Language) (x : ℕ) (b rest : List ℕ) → ¬ (M []) → ((s : List ℕ) → M (x ∷ s) → L (x ∷ s))
    → b ≡ x ∷ rest → NoPrefix L b → NoPrefix M b
NoPrefix-alike L M x b rest some from e none [] y d h = some h
NoPrefix-alike L M x b rest some from e none (z ∷ u) y d h =
    let same : x ≡ z = heads x z rest (u ++ y) (sym e ∙ d) in
    none (z ∷ u) y d (subst (λ (n : ℕ). L (n ∷ u)) same (from u (subst (λ (n : ℕ). M (n ∷ u)) (sym same) h)))

data_empty : (Z : Language) → ¬ ((AnyOf StructuredDataText ⋅ Z) [])
data_empty Z h = elim (data_cases Z [] h) [
  | inl k ↦ absurd cc
  | inr (x, y, e, k, z) ↦ let f = element_prefix x k in let i : ◌≡◌ {A = List ℕ} [] (91 ∷ (f.0 ++ y)) =
      e ∙ ap (λ (u : List ℕ). u ++ y) f.1 in absurd cc
]

-- at the end of the octets
pub no_data : (b : List ℕ) → b ≡ [] → StopsInStructuredData b (length b)
no_data b e = rw e (record {
  message_part = record {
    none = data_empty AnyMessagePart;
    stops =
        record {
          read = [];
          rest = [];
          parts = refl;
          count = refl;
          begins =
              (45 ∷ [], data_none AnyMessagePart [] empty_tail);
          refuses = tt;
        };
  };
  space = nothing;
})
  where
    nothing : NoPrefix (AnyOf StructuredDataText ⋅ Space) []
    nothing [] y d h = data_empty Space h
    nothing (x ∷ u) y d h = absurd cc

pub data_stops : (b t : List ℕ) (x remaining : ℕ) → b ≡ x ∷ t → x ≢ 45 → StopsInElements b remaining
    → StopsInStructuredData b remaining
data_stops b t x remaining e ne f = record {
  message_part = Misses-alike WithTail (AnyOf StructuredDataText ⋅ AnyMessagePart) x b t remaining
      (λ s h. from_other AnyMessagePart x s ne h) (λ s h. data_some AnyMessagePart s h) e f.message_part;
  space = NoPrefix-alike WithSpace (AnyOf StructuredDataText ⋅ Space) x b t (data_empty Space)
      (λ s h. from_other Space x s ne h) e f.space;
}

-- elements end where no bracket is next
OneAhead-elements : OneAhead Elements (λ x. x ≢ 91)
OneAhead-elements p s q t (es, h) (fs, k) u v e = same es fs p s q t h k u v e
  where
    begins_none : (e : ElementParts) (x y s t : List ℕ) → Element e x → IfFirst (λ z. z ≢ 91) s → s ≡ (x ++ y) ++ t → ⊥
    begins_none e x y [] t h u f = let k = element_prefix x (e, h) in
        let i : ◌≡◌ {A = List ℕ} [] (91 ∷ ((k.0 ++ y) ++ t)) = f ∙ ap (λ (w : List ℕ). (w ++ y) ++ t) k.1 in absurd cc
    begins_none e x y (z ∷ s) t h u f = let k = element_prefix x (e, h) in
        u (heads z 91 s ((k.0 ++ y) ++ t) (f ∙ ap (λ (w : List ℕ). (w ++ y) ++ t) k.1))

    same : (es fs : List ElementParts) (p s q t : List ℕ) → Each Element es p → Each Element fs q
        → IfFirst (λ x. x ≢ 91) s → IfFirst (λ x. x ≢ 91) t → p ++ s ≡ q ++ t → p ≡ q
    same [] [] p s q t h k u v e = h ∙ sym k
    same [] (f ∷ fs) p s q t h (x, y, g, k, l) u v e =
        absurd (begins_none f x y s t k u (ap (λ (w : List ℕ). w ++ s) (sym h) ∙ e ∙ ap (λ (w : List ℕ). w ++ t) g))
    same (f ∷ es) [] p s q t (x, y, g, h, l) k u v e =
        absurd (begins_none f x y t s h v (ap (λ (w : List ℕ). w ++ t) (sym k) ∙ sym e ∙ ap (λ (w : List ℕ). w ++ s) g))
    same (f ∷ es) (d ∷ fs) p s q t (x, y, g, h, l) (z, w, i, k, m) u v e =
        let whole : x ++ (y ++ s) ≡ z ++ (w ++ t) =
        sym (append_assoc x y s) ∙ ap (λ (c : List ℕ). c ++ s) (sym g) ∙ e ∙ ap (λ (c : List ℕ). c ++ t) i
        ∙ append_assoc z w t in
        let first : x ≡ z = IsPrefixFree-element x (y ++ s) z (w ++ t) (f, h) (d, k) whole in
        let rests : y ++ s ≡ w ++ t = append_cancel_left x (y ++ s) (w ++ t)
        (whole ∙ ap (λ (c : List ℕ). c ++ (w ++ t)) (sym first)) in
        g ∙ ap (λ (c : List ℕ). c ++ y) first ∙ ap (λ (c : List ℕ). z ++ c) (same es fs y s w t l m u v rests) ∙ sym i

abbrev Some : Language
Some = AnyOf Element ⋅ Elements

some_elements : (s : List ℕ) → Some s → Elements s
some_elements s (x, y, e, (v, h), (vs, k)) = (v ∷ vs, (x, y, e, h, k))

OneAhead-some : OneAhead Some (λ x. x ≢ 91)
OneAhead-some p s q t h k u v e = OneAhead-elements p s q t (some_elements p h) (some_elements q k) u v e

tail_starts : MayStartIn (λ x. x ≢ 91) AnyMessagePart
tail_starts [] h = tt
tail_starts (x ∷ s) h = elim (tail_prefix (x ∷ s) h) [
  | inl k ↦ absurd cc
  | inr k ↦ λ e. omega (arith, e, heads x 32 s k.0 k.1)
]

regroup_many : (Z : Language) (s : List ℕ) → (AnyOf Element ⋅ Many Element Z) s → (Some ⋅ Z) s
regroup_many Z s (x, w, e, h, (y, z, f, k, l)) =
    (x ++ y, z, e ∙ ap (λ (u : List ℕ). x ++ u) f ∙ sym (append_assoc x y z), (x, y, refl, h, k), l)

ungroup_many : (Z : Language) (s : List ℕ) → (Some ⋅ Z) s → (AnyOf Element ⋅ Many Element Z) s
ungroup_many Z s (p, z, e, (x, y, f, h, k), l) =
    (x, y ++ z, e ∙ ap (λ (u : List ℕ). u ++ z) f ∙ append_assoc x y z, h, (y, z, refl, k, l))

some_prefix : (s : List ℕ) → Some s → (t : List ℕ) × (s ≡ 91 ∷ t)
some_prefix s (x, y, e, h, k) = let f = element_prefix x h in (f.0 ++ y, e ∙ ap (λ (u : List ℕ). u ++ y) f.1)

-- after the structured data the tail misses
pub data_misses : (b text rest : List ℕ) (remaining : ℕ) → EndsStructuredData b text rest
    → Misses AnyMessagePart rest remaining → Misses (AnyOf StructuredDataText ⋅ AnyMessagePart) b remaining
data_misses b text rest remaining (e, inl f) m =
    Misses-after AnyMessagePart (AnyOf StructuredDataText ⋅ AnyMessagePart) 45 b rest remaining
    (from_nil AnyMessagePart) (data_none AnyMessagePart) (e ∙ ap (λ (u : List ℕ). u ++ rest) f) m
data_misses b text rest remaining (e, inr (h, n)) m =
    let k = some_prefix text h in
    Misses-alike (Some ⋅ AnyMessagePart) (AnyOf StructuredDataText ⋅ AnyMessagePart) 91 b (k.0 ++ rest) remaining
    (λ s d. regroup_many AnyMessagePart (91 ∷ s) (from_other AnyMessagePart 91 s (λ i. omega (arith, i)) d))
    (λ s d. data_some AnyMessagePart s (ungroup_many AnyMessagePart s d)) (e ∙ ap (λ (u : List ℕ). u ++ rest) k.1)
    (Misses-ahead Some AnyMessagePart (λ x. x ≢ 91) b rest remaining OneAhead-some tail_starts (text, e, h) n m)

-- the text is that of some elements
pub data_text : (b text rest : List ℕ) → EndsStructuredData b text rest → AnyOf StructuredDataText text
data_text b text rest (e, inl f) = ([], f)
data_text b text rest (e, inr ((x, y, g, (v, h), (vs, k)), n)) = (v ∷ vs, (x, y, g, h, k))

-- where no space follows the structured data, no structured data and a space come first
pub no_space : (b text rest : List ℕ) → EndsStructuredData b text rest → IfFirst (λ x. x ≢ 32) rest
    → NoPrefix (AnyOf StructuredDataText ⋅ Space) b
no_space b text rest (e, inl f) n x y d h = elim (data_cases Space x h) [
  | inl k ↦ spaced_rest rest y k.0 n (tails 45 45 rest (k.0 ++ y)
      (ap (λ (u : List ℕ). u ++ rest) (sym f) ∙ sym e ∙ d ∙ ap (λ (u : List ℕ). u ++ y) k.1)) k.2
  | inr k ↦ nils k
]
  where
    spaced_rest : (rest y t : List ℕ) → IfFirst (λ x. x ≢ 32) rest → rest ≡ t ++ y → t ≡ 32 ∷ [] → ⊥
    spaced_rest [] y t n e f = let i : ◌≡◌ {A = List ℕ} [] (32 ∷ y) = e ∙ ap (λ (u : List ℕ). u ++ y) f in absurd cc
    spaced_rest (z ∷ r) y t n e f = n (heads z 32 r y (e ∙ ap (λ (u : List ℕ). u ++ y) f))

    nils : (AnyOf Element ⋅ Many Element Space) x → ⊥
    nils (p, q, g, i, l) =
        let k = element_prefix p i in
        let j : 45 ≡ 91 = heads 45 91 rest ((k.0 ++ q) ++ y)
        (ap (λ (u : List ℕ). u ++ rest) (sym f) ∙ sym e ∙ d
        ∙ ap (λ (u : List ℕ). u ++ y) (g ∙ ap (λ (u : List ℕ). u ++ q) k.1)) in
        omega (arith, j)
no_space b text rest (e, inr (s, n)) m x y d h = elim (data_cases Space x h) [
  | inl k ↦
      let f = some_prefix text s in
      let i : 91 ≡ 45 = heads 91 45 (f.0 ++ rest) (k.0 ++ y)
      (ap (λ (u : List ℕ). u ++ rest) (sym f.1) ∙ sym e ∙ d ∙ ap (λ (u : List ℕ). u ++ y) k.1) in
      absurd (omega (arith, i))
  | inr k ↦ elements (regroup_many Space x k)
]
  where
    elements : (Some ⋅ Space) x → ⊥
    elements (p, q, g, i, l) =
        let whole : text ++ rest ≡ p ++ (q ++ y) = sym e ∙ d ∙ ap (λ (u : List ℕ). u ++ y) g ∙ append_assoc p q y in
        let same : text ≡ p = OneAhead-some text rest p (q ++ y) s i n
        (subst (λ (u : List ℕ). IfFirst (λ z. z ≢ 91) (u ++ y)) (sym l) (λ j. omega (arith, j))) whole in
        let rests : rest ≡ q ++ y = append_cancel_left text rest (q ++ y)
        (whole ∙ ap (λ (u : List ℕ). u ++ (q ++ y)) (sym same)) in
        ends rest y q m rests l
      where
        ends : (rest y t : List ℕ) → IfFirst (λ x. x ≢ 32) rest → rest ≡ t ++ y → t ≡ 32 ∷ [] → ⊥
        ends [] y t n e f = let i : ◌≡◌ {A = List ℕ} [] (32 ∷ y) = e ∙ ap (λ (u : List ℕ). u ++ y) f in absurd cc
        ends (z ∷ r) y t n e f = n (heads z 32 r y (e ∙ ap (λ (u : List ℕ). u ++ y) f))

-- the id of the first element
pub id_first : (octets behind id : List ℕ) (n : ℕ) → behind ≡ drop 1 octets → IsIdLength behind n
    → id ≡ take n behind → IsFirstId octets id
id_first octets behind id n b len t d after
    (text, parts, (a, c, e, h, (w, z, f, (valid, name), (u, v, g, each, close)))) =
    let inside : octets ≡ 91 ∷ (w ++ (u ++ 93 ∷ after)) =
    parts ∙ rw (e, f, g, h, close) (ap (λ (s : List ℕ). 91 ∷ s)
    (append_assoc w (u ++ 93 ∷ []) after ∙ ap (λ (s : List ℕ). w ++ s) (append_assoc u (93 ∷ []) after))) in
    let behind_is : behind ≡ w ++ (u ++ 93 ∷ after) = b ∙ ap (drop 1) inside in
    let n_is : n ≡ length w = id_ends d.params u after w behind behind_is
    (subst (AllByRecursion IsNameOctet) (sym name) valid.octets) each n len in
    t ∙ rw (n_is, behind_is) (take_at w (u ++ 93 ∷ after) (length w) refl) ∙ name
