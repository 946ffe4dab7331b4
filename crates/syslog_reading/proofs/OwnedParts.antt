-- What was read of parameters and elements, as parts of their own.
use Rattle.std.proofs.Common.{◌≡◌, ◌≢◌, ℕ, List, [], ◌∷◌, ◌++◌, refl, sym, ap, subst, ◌∙◌, append_assoc, arith, inl}
use Rattle.std.proofs.Common.{inr, ◌⊎◌}
use Rattle.std.proofs.Math.Logic.{∥∥₁_elim, ∥∥₁_map}
use Rattle.std.proofs.Props.{props}
use Rattle.std.proofs.lemmas.List.{append-nil, append_cancel_left, append_cancel_right}
use Rattle.octet_language.specs.Language.{Language, AnyOf, Each, IsPrefixFree, IfFirst}
use Rattle.octet_language.specs.Reading.{Follows}
use Rattle.octet_language.proofs.Lists.{heads, tails}
use Rattle.syslog_value.specs.Parts.{ParamParts, ElementParts, IsName}
use Rattle.syslog_fields.specs.Grammar.{Name, Param, Element, StructuredDataText}
use Rattle.syslog_fields.specs.FirstElements.{SplitsElement, SplitsParam}
use Rattle.syslog_fields.specs.Spans.{ParamSpan, SpannedParam, ElementSpan, SpannedElement}
use Rattle.syslog_fields.specs.Values.{Spells}
use Rattle.syslog_fields.proofs.Ahead.{may_start}
use Rattle.syslog_fields.proofs.Names.{EndsName, OneAhead-name}
use Rattle.syslog_fields.proofs.ParamTexts.{SpannedParams, params_start, IsPrefixFree-param, IsPrefixFree-element}
use Rattle.syslog_fields.proofs.ParamTexts.{spanned_param, spanned_element, param_some, element_some, element_prefix}
use Rattle.syslog_reading.proofs.Valid.{valid_param, valid_element}

-- ---- one item

-- the first item and the others, where a reader of it took its text
next_item : {V W : Type 0} (A : V → Language) (S : W → Language) → IsPrefixFree (AnyOf A)
    → ((s : List ℕ) → AnyOf S s → AnyOf A s)
    → (v : V) (vs : List V) (w : W) (rest behind : List ℕ) → Each A (v ∷ vs) rest → Follows (S w) rest behind
    → (x : List ℕ) × A v x × S w x × Each A vs behind
next_item A S one from v vs w rest behind (x, y, e, h, k) (t, f, s) =
    let same : x ≡ t = one x y t behind (v, h) (from t (w, s)) (sym e ∙ f) in
    let rests : y ≡ behind = append_cancel_left x y behind (sym e ∙ f ∙ ap (λ (u : List ℕ). u ++ behind) (sym same)) in
    (t, subst (A v) same h, s, subst (Each A vs) rests k)

-- a name and what ends it
same_names : (n m u v : List ℕ) → AnyOf Name n → AnyOf Name m → IfFirst EndsName u → IfFirst EndsName v
    → n ++ u ≡ m ++ v → (n ≡ m) × (u ≡ v)
same_names n m u v h k p q e =
    let same : n ≡ m = OneAhead-name n u m v h k p q e in
    (same, append_cancel_left n u v (e ∙ ap (λ (s : List ℕ). s ++ v) (sym same)))

quoted : (w u v : List ℕ) → w ≡ u ++ v → u ≡ 61 ∷ 34 ∷ [] → IfFirst EndsName w
quoted w u v e h = rw (e, h) (λ n. n.1 refl)

equals : (w u v : List ℕ) → w ≡ u ++ v → u ≡ 61 ∷ [] → IfFirst EndsName w
equals w u v e h = rw (e, h) (λ n. n.1 refl)

-- a parameter by its parts and as it lies in the octets
pub param_same : (p : ParamParts) (s : ParamSpan) (b : List ℕ) → Param p b → SpannedParam s b
    → (p.name ≡ s.name) × Spells p.value s.raw
param_same p s b (x, y, e, h, (z, w, g, (n, k), (u, v, f, l, (q, r, i, m, o))))
    (x', y', e', h', (z', w', g', (n', k'), (u', v', f', l', (q', r', i', m', (a, d, j, (t, c), o'))))) =
    let both : 32 ∷ y ≡ 32 ∷ y' = ap (λ (t : List ℕ). t ++ y) (sym h) ∙ sym e ∙ e' ∙ ap (λ (t : List ℕ). t ++ y') h' in
    let names = same_names z z' w w' (p.name, (n, k)) (s.name, (n', k')) (quoted w u v f l) (equals w' u' v' f' l')
    (sym g ∙ tails 32 32 y y' both ∙ g') in
    let left : w ≡ 61 ∷ 34 ∷ (q ++ 34 ∷ []) =
    f ∙ ap (λ (t : List ℕ). t ++ v) l ∙ ap (λ (t : List ℕ). 61 ∷ 34 ∷ t) (i ∙ ap (λ (t : List ℕ). q ++ t) o) in
    let right : w' ≡ 61 ∷ 34 ∷ (a ++ 34 ∷ []) =
    f' ∙ ap (λ (t : List ℕ). t ++ v') l' ∙ ap (λ (t : List ℕ). 61 ∷ t)
    (i' ∙ ap (λ (t : List ℕ). t ++ r') m' ∙ ap (λ (t : List ℕ). 34 ∷ t) (j ∙ ap (λ (t : List ℕ). a ++ t) o')) in
    let values : q ≡ a = append_cancel_right q a (34 ∷ [])
    (tails 34 34 (q ++ 34 ∷ []) (a ++ 34 ∷ [])
    (tails 61 61 (34 ∷ (q ++ 34 ∷ [])) (34 ∷ (a ++ 34 ∷ [])) (sym left ∙ names.1 ∙ right))) in
    (sym k ∙ names.0 ∙ k', subst (Spells p.value) (values ∙ c) m)

closed : (params w : List ℕ) → AnyOf SpannedParams w → IfFirst EndsName w
closed params w h = may_start EndsName (AnyOf SpannedParams) params_start w h

-- an element by its parts and as it lies in the octets
pub element_same : (p : ElementParts) (s : ElementSpan) (b : List ℕ) → Element p b → SpannedElement s b
    → (p.id ≡ s.id) × Each Param p.params s.params
element_same p s b (x, y, e, h, (z, w, g, (n, k), (u, v, f, l, o)))
    (x', y', e', h', (z', w', g', (n', k'), (a, d, j, (t, c), o'))) =
    let both : 91 ∷ y ≡ 91 ∷ y' = ap (λ (t : List ℕ). t ++ y) (sym h) ∙ sym e ∙ e' ∙ ap (λ (t : List ℕ). t ++ y') h' in
    let names = same_names z z' w w' (p.id, (n, k)) (s.id, (n', k'))
    (closed u w (u, (u, v, f, ((p.params, l), refl), o))) (closed s.params w' (s.params, (a, d, j, (t, c), o')))
    (sym g ∙ tails 91 91 y y' both ∙ g') in
    let same : u ≡ a =
    append_cancel_right u a (93 ∷ []) (ap (λ (q : List ℕ). u ++ q) (sym o) ∙ sym f ∙ names.1 ∙ j
    ∙ ap (λ (q : List ℕ). a ++ q) o') in
    (sym k ∙ names.0 ∙ k', subst (Each Param p.params) (same ∙ c) l)

-- ---- parameters

-- what was read of a text of parameters, and what is left of it
abbrev pub ParamsRead : List ℕ → List ℕ → List ParamParts → Type 0
ParamsRead text rest done = (ps : List ParamParts) → Each Param ps text
    → (todo : List ParamParts) × (ps ≡ done ++ todo) × Each Param todo rest

pub params_all : (text : List ℕ) → ParamsRead text text []
params_all text ps h = (ps, refl, h)

nothing : (x : ℕ) (rest after : List ℕ) → rest ≡ x ∷ after → rest ≡ [] → ⊥
nothing x rest after e h = let i : x ∷ after ≡ [] = sym e ∙ h in absurd cc

pub params_more : (text rest behind after : List ℕ) (x : ℕ) (done next : List ParamParts) (v : ParamSpan)
    (read : ParamParts) → rest ≡ x ∷ after → SplitsParam rest v behind
    → ((value : List ℕ) → Spells value v.raw → read ≡ record { name = v.name; value = value })
    → next ≡ done ++ read ∷ [] → ParamsRead text rest done → ParamsRead text behind next
params_more text rest behind after x done next v read e f is n before ps h = go (before ps h)
  where
    go : ((todo : List ParamParts) × (ps ≡ done ++ todo) × Each Param todo rest)
        → (todo : List ParamParts) × (ps ≡ next ++ todo) × Each Param todo behind
    go ([], g, k) = absurd (nothing x rest after e k)
    go (q ∷ todo, g, k) =
        let item = next_item Param SpannedParam IsPrefixFree-param spanned_param q todo v rest behind k
        (f k.1 (k.0, k.2, (q, k.3))) in
        let same = param_same q v item.0 item.1 item.2 in
        let one : read ≡ q = is q.value same.1 ∙ rw (← same.0) refl in (
          todo,
          g ∙ sym (rw n (append_assoc done (read ∷ []) todo ∙ ap (λ (r : ParamParts). done ++ r ∷ todo) one)),
          item.3,
        )

pub params_end : (text rest : List ℕ) (done : List ParamParts) → rest ≡ [] → ParamsRead text rest done
    → (ps : List ParamParts) → Each Param ps text → done ≡ ps
params_end text rest done e before ps h = go (before ps h)
  where
    go : ((todo : List ParamParts) × (ps ≡ done ++ todo) × Each Param todo rest) → done ≡ ps
    go ([], g, k) = sym (g ∙ append-nil done)
    go (q ∷ todo, g, (a, b, f, k, l)) = absurd (some_param a b q (sym f ∙ e) k)
      where
        some_param : (a b : List ℕ) (q : ParamParts) → a ++ b ≡ [] → Param q a → ⊥
        some_param [] b q e k = param_some (q, k)
        some_param (y ∷ a) b q e k = absurd cc

name_prop : (w : List ℕ) → IsProp (IsName w)
name_prop = hlevel props

-- the first parameter is spelled, and so are those that follow it
first_of_params : (rest behind after : List ℕ) (x : ℕ) (v : ParamSpan) → rest ≡ x ∷ after → SplitsParam rest v behind
    → AnyOf (Each Param) rest → IsName v.name × AnyOf Spells v.raw × AnyOf (Each Param) behind
first_of_params rest behind after x v e f ([], k) = absurd (nothing x rest after e k)
first_of_params rest behind after x v e f (q ∷ todo, k) =
    let item = next_item Param SpannedParam IsPrefixFree-param spanned_param q todo v rest behind k
    (f k.1 (k.0, k.2, (q, k.3))) in
    let same = param_same q v item.0 item.1 item.2 in
    (subst IsName same.0 (valid_param q item.0 item.1).0, (q.value, same.1), (todo, item.3))

pub params_spelled : (rest behind after : List ℕ) (x : ℕ) (v : ParamSpan) → rest ≡ x ∷ after
    → SplitsParam rest v behind → ∥ AnyOf (Each Param) rest ∥₁
    → IsName v.name × ∥ AnyOf Spells v.raw ∥₁ × ∥ AnyOf (Each Param) behind ∥₁
params_spelled rest behind after x v e f h = (
  ∥∥₁_elim h (name_prop v.name) (λ k. (first_of_params rest behind after x v e f k).0),
  ∥∥₁_map h (λ k. (first_of_params rest behind after x v e f k).1),
  ∥∥₁_map h (λ k. (first_of_params rest behind after x v e f k).2),
)

-- ---- elements

-- what was read of structured data, and what is left of it
abbrev pub ElementsRead : List ℕ → List ℕ → List ElementParts → Type 0
ElementsRead text rest done =
    (es : List ElementParts) → StructuredDataText es text
    → (todo : List ElementParts) × (es ≡ done ++ todo) × (Each Element todo rest ⊎ ((todo ≡ []) × (rest ≡ 45 ∷ [])))

pub elements_all : (text : List ℕ) → ElementsRead text text []
elements_all text [] h = ([], refl, inr (refl, h))
elements_all text (e ∷ es) h = (e ∷ es, refl, inl h)

pub elements_more : (text rest behind after : List ℕ) (x : ℕ) (done next : List ElementParts) (v : ElementSpan)
    (read : ElementParts) → rest ≡ x ∷ after → x ≡ 91 → SplitsElement rest v behind
    → ((ps : List ParamParts) → Each Param ps v.params → read ≡ record { id = v.id; params = ps })
    → next ≡ done ++ read ∷ [] → ElementsRead text rest done → ElementsRead text behind next
elements_more text rest behind after x done next v read e first f is n before es h = go (before es h)
  where
    go : ((todo : List ElementParts) × (es ≡ done ++ todo)
        × (Each Element todo rest ⊎ ((todo ≡ []) × (rest ≡ 45 ∷ []))))
        → (todo : List ElementParts) × (es ≡ next ++ todo)
        × (Each Element todo behind ⊎ ((todo ≡ []) × (behind ≡ 45 ∷ [])))
    go (todo, g, inr (k, l)) = let i : x ≡ 45 = heads x 45 after [] (sym e ∙ l) in absurd (omega (arith, i, first))
    go ([], g, inl k) = absurd (nothing x rest after e k)
    go (q ∷ todo, g, inl k) =
        let item = next_item Element SpannedElement IsPrefixFree-element spanned_element q todo v rest behind k
        (f k.1 (k.0, k.2, (q, k.3))) in
        let same = element_same q v item.0 item.1 item.2 in
        let one : read ≡ q = is q.params same.1 ∙ rw (← same.0) refl in (
          todo,
          g ∙ sym (rw n (append_assoc done (read ∷ []) todo ∙ ap (λ (r : ElementParts). done ++ r ∷ todo) one)),
          inl item.3,
        )

first_is : (todo : List ElementParts) (rest after : List ℕ) (x : ℕ) → rest ≡ x ∷ after → x ≢ 91 → Each Element todo rest
    → todo ≡ []
first_is [] rest after x e ne k = refl
first_is (q ∷ todo) rest after x e ne (a, b, f, k, l) =
    let prefix = element_prefix a (q, k) in
    absurd (ne (heads x 91 after (prefix.0 ++ b) (sym e ∙ f ∙ ap (λ (u : List ℕ). u ++ b) prefix.1)))

finished : (es done todo : List ElementParts) → es ≡ done ++ todo → todo ≡ [] → done ≡ es
finished es done todo g k = sym (g ∙ ap (λ (ts : List ElementParts). done ++ ts) k ∙ append-nil done)

-- no element is next
pub elements_nil : (text rest after : List ℕ) (x : ℕ) (done : List ElementParts) → rest ≡ x ∷ after → x ≢ 91
    → ElementsRead text rest done → (es : List ElementParts) → StructuredDataText es text → done ≡ es
elements_nil text rest after x done e ne before es h = go (before es h)
  where
    go : ((todo : List ElementParts) × (es ≡ done ++ todo)
        × (Each Element todo rest ⊎ ((todo ≡ []) × (rest ≡ 45 ∷ [])))) → done ≡ es
    go (todo, g, inl k) = finished es done todo g (first_is todo rest after x e ne k)
    go (todo, g, inr k) = finished es done todo g k.0

pub elements_end : (text rest : List ℕ) (done : List ElementParts) → rest ≡ [] → ElementsRead text rest done
    → (es : List ElementParts) → StructuredDataText es text → done ≡ es
elements_end text rest done e before es h = go (before es h)
  where
    go : ((todo : List ElementParts) × (es ≡ done ++ todo)
        × (Each Element todo rest ⊎ ((todo ≡ []) × (rest ≡ 45 ∷ [])))) → done ≡ es
    go (todo, g, inr k) = finished es done todo g k.0
    go ([], g, inl k) = finished es done [] g refl
    go (q ∷ todo, g, inl (a, b, f, k, l)) = absurd (some_element a b q (sym f ∙ e) k)
      where
        some_element : (a b : List ℕ) (q : ElementParts) → a ++ b ≡ [] → Element q a → ⊥
        some_element [] b q e k = element_some (q, k)
        some_element (y ∷ a) b q e k = absurd cc

-- elements, or NILVALUE
abbrev pub ElementsOrNil : List ℕ → Type 0
ElementsOrNil b = AnyOf (Each Element) b ⊎ (b ≡ 45 ∷ [])

pub data_spelled : (text : List ℕ) → AnyOf StructuredDataText text → ElementsOrNil text
data_spelled text ([], h) = inr h
data_spelled text (e ∷ es, h) = inl (e ∷ es, h)

-- the first element is spelled, and so are those that follow it
first_of_elements : (rest behind after : List ℕ) (x : ℕ) (v : ElementSpan) → rest ≡ x ∷ after → x ≡ 91
    → SplitsElement rest v behind → ElementsOrNil rest
    → IsName v.id × AnyOf (Each Param) v.params × ElementsOrNil behind
first_of_elements rest behind after x v e first f (inr l) =
    let i : x ≡ 45 = heads x 45 after [] (sym e ∙ l) in absurd (omega (arith, i, first))
first_of_elements rest behind after x v e first f (inl ([], k)) = absurd (nothing x rest after e k)
first_of_elements rest behind after x v e first f (inl (q ∷ todo, k)) =
    let item = next_item Element SpannedElement IsPrefixFree-element spanned_element q todo v rest behind k
    (f k.1 (k.0, k.2, (q, k.3))) in
    let same = element_same q v item.0 item.1 item.2 in
    (subst IsName same.0 (valid_element q item.0 item.1).0, (q.params, same.1), inl (todo, item.3))

pub elements_spelled : (rest behind after : List ℕ) (x : ℕ) (v : ElementSpan) → rest ≡ x ∷ after → x ≡ 91
    → SplitsElement rest v behind → ∥ ElementsOrNil rest ∥₁
    → IsName v.id × ∥ AnyOf (Each Param) v.params ∥₁ × ∥ ElementsOrNil behind ∥₁
elements_spelled rest behind after x v e first f h = (
  ∥∥₁_elim h (name_prop v.id) (λ k. (first_of_elements rest behind after x v e first f k).0),
  ∥∥₁_map h (λ k. (first_of_elements rest behind after x v e first f k).1),
  ∥∥₁_map h (λ k. (first_of_elements rest behind after x v e first f k).2),
)

-- ---- wholes from their parts

pub param_is : (q : ParamParts) (n v : List ℕ) → q.name ≡ n → q.value ≡ v → q ≡ record { name = n; value = v }
param_is q n v e f = rw (← e, ← f) refl

pub element_is : (q : ElementParts) (i : List ℕ) (ps : List ParamParts) → q.id ≡ i → q.params ≡ ps
    → q ≡ record { id = i; params = ps }
element_is q i ps e f = rw (← e, ← f) refl
