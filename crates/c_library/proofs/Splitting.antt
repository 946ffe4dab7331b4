-- The parts of the element and of the parameter that come first.
use Rattle.std.proofs.Common.{◌≡◌, ℕ, ◌+◌, ◌-◌, List, [], ◌∷◌, ◌++◌, length, take, drop, sym, ap, subst, ◌∙◌}
use Rattle.std.proofs.Common.{append_assoc, arith}
use Rattle.std.proofs.lemmas.List.{drop_at, length-append, take_at}
use Rattle.octet_language.specs.Reading.{Follows}
use Rattle.syslog_value.specs.Parts.{ElementParts, ParamParts}
use Rattle.syslog_fields.specs.Grammar.{Element, Param}
use Rattle.syslog_fields.specs.FirstElements.{SplitsParam}
use Rattle.syslog_fields.specs.Spans.{ElementSpan, ParamSpan, SpannedElement, SpannedParam}
use Rattle.syslog_fields.proofs.ParamTexts.{IsPrefixFree-element, IsPrefixFree-param, spanned_element, spanned_param}
use Rattle.syslog_reading.proofs.OwnedParts.{element_same, param_same}
use Rattle.c_library.specs.Items.{IsSplit, IsSplitParam}

-- ---- an element

element_text : (v : ElementSpan) (t : List ℕ) → SpannedElement v t → t ≡ 91 ∷ (v.id ++ (v.params ++ 93 ∷ []))
element_text v t (a, b, e, h, (c, d, f, (n, i), (g, k, j, (m, l), o))) =
    e ∙ ap (λ (u : List ℕ). u ++ b) h ∙ ap (λ (u : List ℕ). 91 ∷ u)
    (f ∙ ap (λ (u : List ℕ). u ++ d) i ∙ ap (λ (u : List ℕ). v.id ++ u)
    (j ∙ ap (λ (u : List ℕ). u ++ k) l ∙ ap (λ (u : List ℕ). v.params ++ u) o))

-- the text of an element and what follows it
pub element_parts : (v : ElementSpan) (text behind : List ℕ) → Follows (SpannedElement v) text behind
    → text ≡ 91 ∷ (v.id ++ (v.params ++ 93 ∷ behind))
element_parts v text behind (t, e, s) =
    e ∙ ap (λ (u : List ℕ). u ++ behind) (element_text v t s) ∙ ap (λ (u : List ℕ). 91 ∷ u)
    (append_assoc v.id (v.params ++ 93 ∷ []) behind
    ∙ ap (λ (u : List ℕ). v.id ++ u) (append_assoc v.params (93 ∷ []) behind))

-- the same by the octets of its id and of its parameters
pub spanned_by : (v : ElementSpan) (id params text behind : List ℕ) → id ≡ v.id → params ≡ v.params
    → Follows (SpannedElement v) text behind
    → Follows (SpannedElement (record { id = id; params = params })) text behind
spanned_by v id params text behind is are follows = rw (is, are) follows

pub element_length : (id params behind text : List ℕ) → text ≡ 91 ∷ (id ++ (params ++ 93 ∷ behind))
    → length text ≡ 1 + length id + length params + 1 + length behind
element_length id params behind text e =
    omega (arith, ap length e, length-append id (params ++ 93 ∷ behind), length-append params (93 ∷ behind))

pub behind_id : (id params behind text : List ℕ) (n : ℕ) → text ≡ 91 ∷ (id ++ (params ++ 93 ∷ behind))
    → n ≡ 1 + length id → drop n text ≡ params ++ 93 ∷ behind
behind_id id params behind text n e is =
    ap (λ (u : List ℕ). drop n u) e
    ∙ drop_at (91 ∷ id) (params ++ 93 ∷ behind) n (omega (arith, is))

pub params_taken : (params behind from : List ℕ) (n : ℕ) → from ≡ params ++ 93 ∷ behind
    → n ≡ length from - length behind - 1 → take n from ≡ params
params_taken params behind from n e is =
    ap (λ (u : List ℕ). take n u) e
    ∙ take_at params (93 ∷ behind) n (omega (arith, is, ap length e, length-append params (93 ∷ behind)))

pub element_split : (e : ElementParts) (v : ElementSpan) (text after behind id params : List ℕ)
    → Follows (Element e) text after → Follows (SpannedElement v) text behind → id ≡ v.id → params ≡ v.params
    → IsSplit e text id params
element_split e v text after behind id params (x, g, h) follows is are =
    let t = follows.0 in
    let same : x ≡ t = IsPrefixFree-element x after t behind (e, h) (spanned_element t (v, follows.2)) (sym g ∙ follows.1) in
    let s = element_same e v t (subst (Element e) same h) follows.2 in
    record {
      id_is = is ∙ sym s.0;
      params_are = rw are s.1;
      behind = behind;
      parts = rw (is, are) (element_parts v text behind follows);
    }

-- ---- a parameter

param_text : (v : ParamSpan) (t : List ℕ) → SpannedParam v t → t ≡ 32 ∷ (v.name ++ (61 ∷ 34 ∷ (v.raw ++ 34 ∷ [])))
param_text v t (a, b, e, h, (c, d, f, (n, i), (g, k, j, l, (m, o, p, q, (r, s, u, (w, x), y))))) =
    e ∙ ap (λ (z : List ℕ). z ++ b) h ∙ ap (λ (z : List ℕ). 32 ∷ z)
    (f ∙ ap (λ (z : List ℕ). z ++ d) i ∙ ap (λ (z : List ℕ). v.name ++ z)
    (j ∙ ap (λ (z : List ℕ). z ++ k) l ∙ ap (λ (z : List ℕ). 61 ∷ z)
    (p ∙ ap (λ (z : List ℕ). z ++ o) q ∙ ap (λ (z : List ℕ). 34 ∷ z)
    (u ∙ ap (λ (z : List ℕ). z ++ s) x ∙ ap (λ (z : List ℕ). v.raw ++ z) y))))

pub param_parts : (v : ParamSpan) (text behind : List ℕ) → Follows (SpannedParam v) text behind
    → text ≡ 32 ∷ (v.name ++ (61 ∷ 34 ∷ (v.raw ++ 34 ∷ behind)))
param_parts v text behind (t, e, s) =
    e ∙ ap (λ (u : List ℕ). u ++ behind) (param_text v t s) ∙ ap (λ (u : List ℕ). 32 ∷ u)
    (append_assoc v.name (61 ∷ 34 ∷ (v.raw ++ 34 ∷ [])) behind
    ∙ ap (λ (u : List ℕ). v.name ++ (61 ∷ 34 ∷ u)) (append_assoc v.raw (34 ∷ []) behind))

pub param_split : (q : ParamParts) (v : ParamSpan) (text after behind name raw : List ℕ)
    → Follows (Param q) text after → SplitsParam text v behind → name ≡ v.name → raw ≡ v.raw
    → IsSplitParam q text name raw
param_split q v text after behind name raw (x, g, h) splits is are =
    let follows = splits after (x, g, (q, h)) in
    let t = follows.0 in
    let same : x ≡ t = IsPrefixFree-param x after t behind (q, h) (spanned_param t (v, follows.2)) (sym g ∙ follows.1) in
    let s = param_same q v t (subst (Param q) same h) follows.2 in
    record {
      name_is = is ∙ sym s.0;
      raw_is = rw are s.1;
      behind = behind;
      parts = rw (is, are) (param_parts v text behind follows);
    }
