-- What stands for elements, sorted, and the elements written.
use Rattle.std.proofs.Common.{◌≡◌, ℕ, zero, suc, ◌+◌, ◌-◌, ◌<◌, List, [], ◌∷◌, ◌++◌, length, take, drop, set, get_or}
use Rattle.std.proofs.Common.{refl, sym, ap, subst, ◌∙◌, append_assoc, arith, Bor}
use Rattle.std.specs.Prelude.{Option, Some, None, Bool, true, false, IsTrue, Result, Ok, Err, ⊤}
use Rattle.std.specs.List.{flat_map, swap}
use Rattle.std.specs.List.Sorted.{IsPermutation}
use Rattle.std.proofs.lemmas.List.{append-nil, take_more_set}
use Rattle.std.proofs.lemmas.List.Sorted.{IsPermutation-keeps, IsPermutation-refl, IsPermutation-swap}
use Rattle.std.proofs.lemmas.List.Sorted.{IsPermutation-trans, length_permutation}
use Rattle.octet_language.specs.Language.{AnyOf}
use Rattle.octet_language.proofs.Lists.{heads}
use Rattle.syslog_value.specs.Parts.{ElementParts, IsById}
use Rattle.syslog_fields.specs.Appending.{Adds, Anything}
use Rattle.syslog_fields.specs.Canonical.{element_form, structured_data_form}
use Rattle.syslog_fields.specs.FirstElements.{IsFirstId, SplitsElement}
use Rattle.syslog_fields.specs.Grammar.{Element}
use Rattle.syslog_fields.specs.Spans.{ElementSpan, SpannedElement}
use Rattle.syslog_fields.proofs.ParamTexts.{IsPrefixFree-element, element_prefix, spanned_element}
use Rattle.syslog_fields.proofs.Loops.{left_at}
use Rattle.syslog_reading.specs.Ids.{IsAbove, IsRisingFrom, ids_of}
use Rattle.syslog_reading.proofs.Rising.{of_rising}
use Rattle.syslog_reading.proofs.OneMeaning.{by_prefix}
use Rattle.syslog_reading.proofs.Repeating.{prefix_is, split}
use Rattle.syslog_reading.proofs.Valid.{valid_element}
use Rattle.syslog_grammar.specs.Reescaped.{FirstElement, PutsUnless}
use Rattle.syslog_grammar.specs.Sorting.{AreElementsOf, FirstOf, FormInOrder, IsKeyOf, IsTextOf, Pairs, SortedDataOf}
use Rattle.syslog_grammar.specs.Sorting.{SortedElementsOf, TextForm, offset_of}
use Rattle.syslog_grammar.proofs.DataForms.{item}
use Rattle.syslog_grammar.proofs.CanonicalParses.{element_parsed}

-- ---- what stands for the elements

pairs_end : {K : Type 0} (R : ElementParts → K → Type 0) (es : List ElementParts) (ks : List K) (e : ElementParts)
    (k : K) → Pairs R es ks → R e k → Pairs R (es ++ e ∷ []) (ks ++ k ∷ [])
unfolding Pairs
pairs_end R [] [] e k h s = (s, tt)
pairs_end R [] (l ∷ ks) e k h s = absurd h
pairs_end R (d ∷ es) [] e k h s = absurd h
pairs_end R (d ∷ es) (l ∷ ks) e k h s = (h.0, pairs_end R es ks e k h.1 s)

-- the elements for which something stands, and the others
abbrev pub Fills : {K : Type 0} → (Bool → ElementParts → K → Type 0) → List ℕ → List ℕ → ℕ → List K → Type 0
Fills R elements rest count keys = (a : Bool) (es : List ElementParts) → AreElementsOf a es elements
    → (done : List ElementParts) × (todo : List ElementParts) × (es ≡ done ++ todo)
    × Pairs (R a) done (take count keys) × AreElementsOf a todo rest

pub fills_none : {K : Type 0} (R : Bool → ElementParts → K → Type 0) (elements : List ℕ) (keys : List K)
    → Fills R elements elements 0 keys
unfolding Pairs
fills_none R elements keys a es h = ([], es, refl, tt, h)

-- the canonical text of elements is that of the first and that of the others
form_parted : (a : Bool) (d : ElementParts) (todo : List ElementParts) (rest prefix behind : List ℕ)
    → rest ≡ prefix ++ behind → Element d prefix → (IsTrue a → rest ≡ flat_map element_form (d ∷ todo)) → IsTrue a
    → (prefix ≡ element_form d) × (behind ≡ flat_map element_form todo)
form_parted a d todo rest prefix behind e h form u =
    by_prefix (AnyOf Element) prefix behind (element_form d) (flat_map element_form todo) IsPrefixFree-element (d, h)
    (d, element_parsed d (valid_element d prefix h)) (sym e ∙ form u)

-- it stands for the element that comes first, before the rest
abbrev StandsForFirst : {K : Type 0} → (Bool → ElementParts → K → Type 0) → List ℕ → List ℕ → K → Type 0
StandsForFirst R rest behind key = (a : Bool) (d : ElementParts) (todo : List ElementParts) (text : List ℕ)
    → rest ≡ text ++ behind → AreElementsOf a (d ∷ todo) rest → AreElementsOf a (d ∷ []) text → R a d key

fills_more : {K : Type 0} (R : Bool → ElementParts → K → Type 0) (elements rest behind after : List ℕ) (x count : ℕ)
    (key : K) (keys : List K) (v : ElementSpan) → rest ≡ x ∷ after → SplitsElement rest v behind → count < length keys
    → StandsForFirst R rest behind key → Fills R elements rest count keys
    → Fills R elements behind (count + 1) (set keys count key)
fills_more {K} R elements rest behind after x count key keys v e f room stands fills a es h = go (fills a es h)
  where
    go : (done : List ElementParts) × (todo : List ElementParts) × (es ≡ done ++ todo)
        × Pairs (R a) done (take count keys) × AreElementsOf a todo rest
        → (done : List ElementParts) × (todo : List ElementParts) × (es ≡ done ++ todo)
        × Pairs (R a) done (take (count + 1) (set keys count key)) × AreElementsOf a todo behind
    go (done, [], g, k, l) = let i : ◌≡◌ {A = List ℕ} [] (x ∷ after) = sym l.0 ∙ e in absurd cc
    go (done, d ∷ todo, g, k, l) =
        let s = split d todo rest behind v l.0 f in
        let form = form_parted a d todo rest s.prefix behind s.parts s.text l.1 in
        let one : AreElementsOf a (d ∷ []) s.prefix =
        ((s.prefix, [], sym (append-nil s.prefix), s.text, refl), λ u. (form u).0 ∙ sym (append-nil (element_form d))) in (
          done ++ d ∷ [],
          todo,
          g ∙ sym (append_assoc done (d ∷ []) todo),
          subst (Pairs (R a) (done ++ d ∷ [])) (sym (take_more_set keys count key room))
              (pairs_end (R a) done (take count keys) d key k (stands a d todo s.prefix s.parts l one)),
          (s.others, λ u. (form u).1),
        )

-- a key
pub keys_more : (elements rest behind after prefix : List ℕ) (x count key : ℕ) (keys : List ℕ) (v : ElementSpan)
    → rest ≡ x ∷ after → SplitsElement rest v behind → elements ≡ prefix ++ rest
    → offset_of key ≡ length elements - length rest → count < length keys
    → Fills (λ a. IsKeyOf a elements) elements rest count keys
    → Fills (λ a. IsKeyOf a elements) elements behind (count + 1) (set keys count key)
keys_more elements rest behind after prefix x count key keys v e f parts offset room =
    let here : rest ≡ drop (offset_of key) elements = left_at elements prefix rest parts
    ∙ ap (λ (n : ℕ). drop n elements) (sym offset) in
    fills_more (λ a. IsKeyOf a elements) elements rest behind after x count key keys v e f room
    (λ a d todo text p l one. (todo, subst (AreElementsOf a (d ∷ todo)) here l))

-- a text
pub texts_more : (elements rest behind after : List ℕ) (x count : ℕ) (text : Bor (List ℕ)) (texts : List (Bor (List ℕ)))
    (v : ElementSpan) → rest ≡ x ∷ after → SplitsElement rest v behind
    → text.now ≡ take (length rest - length behind) rest → count < length texts
    → Fills IsTextOf elements rest count texts → Fills IsTextOf elements behind (count + 1) (set texts count text)
texts_more elements rest behind after x count text texts v e f cut room =
    fills_more IsTextOf elements rest behind after x count text texts v e f room
    (λ a d todo first p l one. subst (AreElementsOf a (d ∷ [])) (sym (cut ∙ prefix_is rest first behind p)) one)

pub fills_whole : {K : Type 0} (R : Bool → ElementParts → K → Type 0) (elements rest : List ℕ) (count : ℕ)
    (keys : List K) → rest ≡ [] → Fills R elements rest count keys → (a : Bool) (es : List ElementParts)
    → AreElementsOf a es elements → Pairs (R a) es (take count keys)
fills_whole {K} R elements rest count keys e fills a es h = go (fills a es h)
  where
    go : (done : List ElementParts) × (todo : List ElementParts) × (es ≡ done ++ todo)
        × Pairs (R a) done (take count keys) × AreElementsOf a todo rest
        → Pairs (R a) es (take count keys)
    go (done, [], g, k, l) = subst (λ (u : List ElementParts). Pairs (R a) u (take count keys))
        (sym (g ∙ append-nil done)) k
    go (done, d ∷ todo, g, k, ((y, b, i, l, m), form)) =
        let p = element_prefix y (d, l) in
        let j : ◌≡◌ {A = List ℕ} [] (91 ∷ (p.0 ++ b)) = sym e ∙ i ∙ ap (λ (u : List ℕ). u ++ b) p.1 in absurd cc

-- ---- their order

same_count : {K : Type 0} (R : ElementParts → K → Type 0) (es : List ElementParts) (ks : List K) → Pairs R es ks
    → length ks ≡ length es
unfolding Pairs
same_count R [] [] h = refl
same_count R [] (k ∷ ks) h = absurd h
same_count R (e ∷ es) [] h = absurd h
same_count R (e ∷ es) (k ∷ ks) h = ap suc (same_count R es ks h.1)

pair_at : {K : Type 0} (R : ElementParts → K → Type 0) (es : List ElementParts) (ks : List K) (i : ℕ)
    (d : ElementParts) (u : K) → Pairs R es ks → i < length ks → R (get_or es i d) (get_or ks i u)
unfolding Pairs
pair_at R [] [] i d u h less = absurd (omega arith)
pair_at R [] (k ∷ ks) i d u h less = absurd h
pair_at R (e ∷ es) [] i d u h less = absurd h
pair_at R (e ∷ es) (k ∷ ks) zero d u h less = h.0
pair_at R (e ∷ es) (k ∷ ks) (suc i) d u h less = pair_at R es ks i d u h.1 (omega arith)

pairs_set : {K : Type 0} (R : ElementParts → K → Type 0) (es : List ElementParts) (ks : List K) (i : ℕ)
    (e : ElementParts) (k : K) → Pairs R es ks → R e k → Pairs R (set es i e) (set ks i k)
unfolding Pairs
pairs_set R [] [] i e k h s = h
pairs_set R [] (l ∷ ks) i e k h s = absurd h
pairs_set R (d ∷ es) [] i e k h s = absurd h
pairs_set R (d ∷ es) (l ∷ ks) zero e k h s = (s, h.1)
pairs_set R (d ∷ es) (l ∷ ks) (suc i) e k h s = (h.0, pairs_set R es ks i e k h.1 s)

-- the same elements in the order of what stands for them
abbrev Reordered : {K : Type 0} → (ElementParts → K → Type 0) → List ElementParts → List K → Type 0
Reordered R es ks = (fs : List ElementParts) × IsPermutation es fs × Pairs R fs ks

swapped : {K : Type 0} (R : ElementParts → K → Type 0) (es : List ElementParts) (ks : List K) (i j : ℕ)
    → i < length ks → j < length ks → Reordered R es ks → Reordered R es (swap ks i j)
unfolding Pairs
swapped R es ks i j l m ([], p, h) = absurd (omega (arith, l, same_count R [] ks h))
swapped R es [] i j l m (f ∷ fs, p, h) = absurd (omega (arith, l))
swapped R es (k ∷ ks) i j l m (f ∷ fs, p, h) =
    let n : length (k ∷ ks) ≡ length (f ∷ fs) = same_count R (f ∷ fs) (k ∷ ks) h in (
      swap (f ∷ fs) i j,
      IsPermutation-trans es (f ∷ fs) (swap (f ∷ fs) i j) p
          (IsPermutation-swap (f ∷ fs) (swap (f ∷ fs) i j) i j (subst (λ (u : ℕ). i < u) n l)
          (subst (λ (u : ℕ). j < u) n m) refl),
      pairs_set R (set (f ∷ fs) i (get_or (f ∷ fs) j f)) (set (k ∷ ks) i (get_or (k ∷ ks) j k)) j
          (get_or (f ∷ fs) i f) (get_or (k ∷ ks) i k)
          (pairs_set R (f ∷ fs) (k ∷ ks) i (get_or (f ∷ fs) j f) (get_or (k ∷ ks) j k) h
          (pair_at R (f ∷ fs) (k ∷ ks) j f k h m))
          (pair_at R (f ∷ fs) (k ∷ ks) i f k h l),
    )

reordered : {K : Type 0} (R : ElementParts → K → Type 0) (es : List ElementParts) (before after : List K)
    → Pairs R es before → IsPermutation before after → Reordered R es after
reordered R es before after h p = IsPermutation-keeps before (Reordered R es) (es, IsPermutation-refl es, h)
    (swapped R es) after p

-- ---- their canonical form

-- what was written of the elements for which these stand, and which are left
pub record Written {K : Type 0} (R : ElementParts → K → Type 0) (all rest : List K) (met : Option (List ℕ))
    (old out : List ℕ) : Type 0 where
  pub done : List ℕ
  pub parts : out ≡ old ++ done
  pub is : (es : List ElementParts) → Pairs R es all
      → (todo : List ElementParts) × Pairs R todo rest
      × (flat_map element_form es ≡ done ++ flat_map element_form todo)
      × (IsRisingFrom met (ids_of todo) → IsById es)

pub written_none : {K : Type 0} (R : ElementParts → K → Type 0) (all : List K) (old : List ℕ)
    → Written R all all None old old
written_none R all old = record {
  done = [];
  parts = sym (append-nil old);
  is =
      λ es h. (es, h, refl, λ k. (of_rising None es k).1);
}

pub written_begun : {K : Type 0} (R : ElementParts → K → Type 0) (all rest : List K) (met : Option (List ℕ))
    (old out : List ℕ) → Written R all rest met old out → Adds Anything old out
written_begun R all rest met old out w = (w.done, tt, w.parts)

-- the first of elements, cut from their octets where it lies there in canonical form
pub first_cut : (a : Bool) (octets behind text b : List ℕ) (v : ElementSpan) → IsTrue a → SplitsElement octets v behind
    → text ≡ take (length octets - length behind) octets → b ≡ text → FirstOf a octets b
first_cut a octets behind text b v u f cut h d others (each, form) =
    let i = item Element SpannedElement IsPrefixFree-element spanned_element d others v octets behind each
    (f each.1 (each.0, each.2, (d, each.3))) in
    let k = form_parted a d others octets i.0 behind i.1 i.2 form u in
    h ∙ cut ∙ prefix_is octets i.0 behind i.1 ∙ k.0

-- the first of elements, written in canonical form
pub first_put : (a : Bool) (octets rest b : List ℕ) → FirstElement octets rest b → FirstOf a octets b
first_put a octets rest b h d others ((x, y, e, k, l), form) = (h d y (x, e, k)).0

-- the element of a text, as it lies there in canonical form
pub text_kept : (a : Bool) (text b : List ℕ) → IsTrue a → b ≡ text → TextForm a text b
text_kept a text b u h e k = h ∙ k.1 u ∙ append-nil (element_form e)

-- the element of a text, written in canonical form
pub text_put : (a : Bool) (text rest b : List ℕ) → FirstElement text rest b → TextForm a text b
text_put a text rest b h e k = first_put a text rest b h e [] k

-- this id and a text of this language are those of the element for which it stands
abbrev pub IsOf : {K : Type 0} → (ElementParts → K → Type 0) → K → List ℕ → (List ℕ → Type 0) → Type 0
IsOf R key id L = (e : ElementParts) → R e key → (id ≡ e.id) × ((z : List ℕ) → L z → z ≡ element_form e)

pub of_key : (a : Bool) (text tail id : List ℕ) (key : ℕ) → tail ≡ drop (offset_of key) text → IsFirstId tail id
    → IsOf (IsKeyOf a text) key id (FirstOf a tail)
of_key a text tail id key at first e s =
    let h : AreElementsOf a (e ∷ s.0) tail = subst (AreElementsOf a (e ∷ s.0)) (sym at) s.1 in
    (first e h.0.1 (h.0.0, h.0.2, h.0.3), λ z zs. zs e s.0 h)

pub of_text : (a : Bool) (id : List ℕ) (text : Bor (List ℕ)) → IsFirstId text.now id
    → IsOf (IsTextOf a) text id (TextForm a text.now)
of_text a id text first e h = (first e h.0.1 (h.0.0, h.0.2, h.0.3), λ z zs. zs e h)

pub written_more : {K : Type 0} (R : ElementParts → K → Type 0) (all rest others : List K) (key : K) (id : List ℕ)
    (L : List ℕ → Type 0) (old out mid : List ℕ) (met : Option (List ℕ)) → rest ≡ key ∷ others → IsOf R key id L
    → IsAbove id met → Adds L out mid → Written R all rest met old out → Written R all others (Some id) old mid
unfolding Pairs
written_more {K} R all rest others key id L old out mid met e of above (z, zs, ze) w = record {
  done = w.done ++ z;
  parts = ze ∙ ap (λ (u : List ℕ). u ++ z) w.parts ∙ append_assoc old w.done z;
  is = λ es h. go es (w.is es h);
}
  where
    go : (es : List ElementParts) → (todo : List ElementParts) × Pairs R todo rest
        × (flat_map element_form es ≡ w.done ++ flat_map element_form todo)
        × (IsRisingFrom met (ids_of todo) → IsById es)
        → (todo : List ElementParts) × Pairs R todo others
        × (flat_map element_form es ≡ (w.done ++ z) ++ flat_map element_form todo)
        × (IsRisingFrom (Some id) (ids_of todo) → IsById es)
    go es ([], k, g, rising) = absurd (subst (Pairs R []) e k)
    go es (d ∷ todo, k, g, rising) =
        let both : R d key × Pairs R todo others = subst (Pairs R (d ∷ todo)) e k in
        let is = of d both.0 in (
          todo,
          both.1,
          g ∙ ap (λ (u : List ℕ). w.done ++ (u ++ flat_map element_form todo)) (sym (is.1 z zs))
              ∙ sym (append_assoc w.done z (flat_map element_form todo)),
          λ others_rise. rising (
            subst (λ (u : List ℕ). IsAbove u met) is.0 above,
            subst (λ (u : List ℕ). IsRisingFrom (Some u) (ids_of todo)) is.0 others_rise,
          ),
        )

pub written_end : {K : Type 0} (R : ElementParts → K → Type 0) (all rest : List K) (met : Option (List ℕ))
    (old out : List ℕ) → rest ≡ [] → Written R all rest met old out → Adds (FormInOrder R all) old out
unfolding Pairs
written_end {K} R all rest met old out e w = (w.done, λ es h. go es (w.is es h), w.parts)
  where
    go : (es : List ElementParts) → (todo : List ElementParts) × Pairs R todo rest
        × (flat_map element_form es ≡ w.done ++ flat_map element_form todo)
        × (IsRisingFrom met (ids_of todo) → IsById es) → (w.done ≡ flat_map element_form es) × IsById es
    go es ([], k, g, rising) = (sym (g ∙ append-nil w.done), rising tt)
    go es (d ∷ todo, k, g, rising) = absurd (subst (Pairs R (d ∷ todo)) e k)

pub none_left : {K : Type 0} (ks : List K) → drop (length ks) ks ≡ []
none_left [] = refl
none_left (k ∷ ks) = none_left ks

-- what stands for the elements, sorted, stands for them in order
pub sorted_form : {K : Type 0} (R : ElementParts → K → Type 0) (a : Bool) (elements : List ℕ) (before after : List K)
    (b : List ℕ) → ((es : List ElementParts) → AreElementsOf a es elements → Pairs R es before)
    → IsPermutation before after → FormInOrder R after b → SortedElementsOf a elements b
sorted_form R a elements before after b holds p form es h =
    let r = reordered R es before after (holds es h) p in
    let k = form r.0 r.2 in
    (r.0, r.1, k.1, k.0)

-- elements that come first are structured data
pub data_sorted : (a : Bool) (text after b : List ℕ) (x : ℕ) → text ≡ x ∷ after → x ≡ 91 → SortedElementsOf a text b
    → SortedDataOf a text b
data_sorted a text after b x e f form [] h k = let i : x ≡ 45 = heads x 45 after [] (sym e ∙ h) in
    absurd (omega (arith, i, f))
data_sorted a text after b x e f form (d ∷ es) h k = go (form (d ∷ es) (h, k))
  where
    go : (fs : List ElementParts) × IsPermutation (d ∷ es) fs × IsById fs × (b ≡ flat_map element_form fs)
        → (fs : List ElementParts) × IsPermutation (d ∷ es) fs × IsById fs × (b ≡ structured_data_form fs)
    go ([], p, k, g) = absurd (omega (arith, length_permutation (d ∷ es) [] p))
    go (c ∷ fs, p, k, g) = (c ∷ fs, p, k, g)

-- a text of one language is one of another
pub puts_wider : {E : Type 0} (L M : List ℕ → Type 0) (old new : List ℕ) (r : Result Bool E)
    → ((b : List ℕ) → L b → M b) → PutsUnless L ⊤ old new r → PutsUnless M ⊤ old new r
puts_wider L M old new (Ok true) f (b, h, e) = (b, f b h, e)
puts_wider L M old new (Ok false) f h = h
puts_wider L M old new (Err e) f h = h

-- some text was appended
pub unless_begun : (E : Type 0) (L : List ℕ → Type 0) (old new : List ℕ) (all : Bool) → all ≡ false
    → PutsUnless {E = E} L ⊤ old new (Ok all) → Adds Anything old new
unless_begun E L old new true e h = absurd cc
unless_begun E L old new false e h = h.0
