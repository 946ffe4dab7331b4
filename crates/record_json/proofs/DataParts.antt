-- Parameters and elements that are written from their octets.
use Rattle.std.proofs.Common.{◌≡◌, ◌≢◌, ℕ, Bool, true, false, List, [], ◌∷◌, ◌++◌, length, take, drop, refl, sym, ap, subst}
use Rattle.std.proofs.Common.{Bor, ◌∙◌, append_assoc, arith}
use Rattle.std.specs.Prelude.{MatchResult, Result, Ok, Err}
use Rattle.std.specs.List.{AllByRecursion}
use Rattle.std.proofs.lemmas.List.{append-nil, drop_at, take_at}
use Rattle.json.specs.Print.{escape, quoted}
use Rattle.octet_language.specs.Language.{Only, ◌⋅◌, AnyOf, Each, IfFirst}
use Rattle.octet_language.specs.Reading.{Follows}
use Rattle.octet_language.proofs.Lists.{heads}
use Rattle.syslog_value.specs.Parts.{ElementParts, IsNameOctet, ParamParts}
use Rattle.syslog_fields.specs.Appending.{Adds, Anything, Puts}
use Rattle.syslog_fields.specs.FirstElements.{IsIdLength, SplitsParam}
use Rattle.syslog_fields.specs.Grammar.{Element, Param}
use Rattle.syslog_fields.specs.Spans.{ParamSpan}
use Rattle.syslog_fields.proofs.Appends.{adds_as, adds_some, only_then, puts_as, puts_then}
use Rattle.syslog_fields.proofs.FirstElements.{id_ends}
use Rattle.syslog_fields.proofs.ParamTexts.{IsPrefixFree-param, element_prefix, param_prefix, spanned_param}
use Rattle.syslog_reading.proofs.OneMeaning.{by_prefix}
use Rattle.syslog_reading.proofs.OwnedParts.{param_same}
use Rattle.syslog_grammar.specs.Reescaped.{FirstForm}
use Rattle.record_json.specs.Texts.{DataOf, ElementsOf, FirstElement, FirstParams, ParamOf, comma_if}
use Rattle.record_json.specs.Texts.{ValueOf, elements_text, pair_text, param_text, params_text}

-- ---- parameters

-- the parameter that was written is the one that comes first
first_param : (later : Bool) (octets behind old new : List ℕ) (v : ParamSpan) → SplitsParam octets v behind
    → Adds (ParamOf later v) old new → Adds (FirstForm Param (param_text later) octets behind) old new
first_param later octets behind old new v split (b, h, e) = (b, λ p after f. one p after f, e)
  where
    one : (p : ParamParts) (after : List ℕ) → Follows (Param p) octets after → (b ≡ param_text later p) × (behind ≡ after)
    one p after (text, parts, parse) =
        let (t, g, s) = split after (text, parts, (p, parse)) in
        let both = by_prefix (AnyOf Param) text after t behind IsPrefixFree-param (p, parse) (spanned_param t (v, s))
        (sym parts ∙ g) in
        let same = param_same p v t (subst (Param p) both.0 parse) s in
        (h p.value same.1 ∙ ap (λ (n : List ℕ). pair_text later n (escape p.value)) (sym same.0), sym both.1)

pub param_puts : {X E : Type 0} (later : Bool) (v : ParamSpan) (old m1 m2 m3 m4 new : List ℕ) (r : Result X E)
    → Adds (Only (comma_if later ++ 91 ∷ 34 ∷ [])) old m1 → Adds (Only (escape v.name)) m1 m2
    → Adds (Only (34 ∷ 44 ∷ 34 ∷ [])) m2 m3 → Adds (ValueOf v.raw) m3 m4 → Puts (Only (34 ∷ 93 ∷ [])) m4 new r
    → Puts (ParamOf later v) old new r
param_puts later v old m1 m2 m3 m4 new r h1 h2 h3 h4 h5 =
    let front : List ℕ = ((comma_if later ++ 91 ∷ 34 ∷ []) ++ escape v.name) ++ 34 ∷ 44 ∷ 34 ∷ [] in
    let begun : Adds (Only front) old m3 =
    only_then ((comma_if later ++ 91 ∷ 34 ∷ []) ++ escape v.name) (34 ∷ 44 ∷ 34 ∷ []) old m2 m3
    (only_then (comma_if later ++ 91 ∷ 34 ∷ []) (escape v.name) old m1 m2 h1 h2) h3 in
    puts_as (Only front ⋅ ValueOf v.raw ⋅ Only (34 ∷ 93 ∷ [])) (ParamOf later v) old new r
    (λ s (a, b, e, fa, (d, g, f, yh, ge)). λ value h. rw (e, fa, f, yh value h, ge) (simp append_assoc))
    (puts_then (Only front) (ValueOf v.raw ⋅ Only (34 ∷ 93 ∷ [])) old m3 new r begun
    (puts_then (ValueOf v.raw) (Only (34 ∷ 93 ∷ [])) m3 m4 new r h4 h5))

pub record ParamsWritten (octets rest : List ℕ) (later : Bool) (old out : List ℕ) : Type 0 where
  pub done : List ℕ
  pub parts : out ≡ old ++ done
  pub is : (ps : List ParamParts) (t after : List ℕ) → Each Param ps t → octets ≡ t ++ 93 ∷ after
      → (todo : List ParamParts) × (s : List ℕ) × Each Param todo s × (rest ≡ s ++ 93 ∷ after)
      × (params_text false ps ≡ done ++ params_text later todo)

pub params_none : (octets old : List ℕ) → ParamsWritten octets octets false old old
params_none octets old = record {
  done = [];
  parts = sym (append-nil old);
  is = λ ps t after h e. (ps, t, h, e, refl);
}

pub params_begun : (octets rest : List ℕ) (later : Bool) (old out : List ℕ) → ParamsWritten octets rest later old out
    → Adds Anything old out
params_begun octets rest later old out w = (w.done, tt, w.parts)

pub params_more : (octets rest behind others : List ℕ) (later : Bool) (old out mid : List ℕ) (v : ParamSpan)
    → rest ≡ 32 ∷ others → SplitsParam rest v behind → Adds (ParamOf later v) out mid
    → ParamsWritten octets rest later old out → ParamsWritten octets behind true old mid
params_more octets rest behind others later old out mid v e split a w = more (first_param later rest behind out mid v split a)
  where
    more : Adds (FirstForm Param (param_text later) rest behind) out mid → ParamsWritten octets behind true old mid
    more (z, zs, ze) = record {
      done = w.done ++ z;
      parts = ze ∙ ap (λ (u : List ℕ). u ++ z) w.parts ∙ append_assoc old w.done z;
      is = λ ps t after h g. let l = w.is ps t after h g in one ps after l.0 l.1 l.2 l.3 l.4;
    }
      where
        one : (ps : List ParamParts) (after : List ℕ) (todo : List ParamParts) (s : List ℕ) → Each Param todo s
            → rest ≡ s ++ 93 ∷ after → params_text false ps ≡ w.done ++ params_text later todo
            → (ks : List ParamParts) × (u : List ℕ) × Each Param ks u × (behind ≡ u ++ 93 ∷ after)
            × (params_text false ps ≡ (w.done ++ z) ++ params_text true ks)
        one ps after [] s k i g =
            absurd (omega (arith, heads 32 93 others after (sym e ∙ i ∙ ap (λ (u : List ℕ). u ++ 93 ∷ after) k)))
        one ps after (q ∷ todo) s (x, y, j, k, l) i g =
            let form = zs q (y ++ 93 ∷ after)
            (x, i ∙ ap (λ (u : List ℕ). u ++ 93 ∷ after) j ∙ append_assoc x y (93 ∷ after), k) in (
              todo,
              y,
              l,
              form.1,
              g ∙ ap (λ (u : List ℕ). w.done ++ (u ++ params_text true todo)) (sym form.0)
                  ∙ sym (append_assoc w.done z (params_text true todo)),
            )

pub params_end : (octets rest behind : List ℕ) (later : Bool) (old mid new : List ℕ) → IfFirst (λ x. x ≢ 32) rest
    → behind ≡ drop 1 rest → ParamsWritten octets rest later old mid → Adds (Only (93 ∷ [])) mid new
    → Adds (FirstParams octets behind) old new
params_end octets rest behind later old mid new other b w (z, zs, ze) = (
  w.done ++ z,
  λ ps after (t, e, (x, y, f, h, g)).
      let whole : octets ≡ x ++ 93 ∷ after = e ∙ rw (f, g) (append_assoc x (93 ∷ []) after) in
      let l = w.is ps x after h whole in one ps after l.0 l.1 l.2 l.3 l.4,
  ze ∙ ap (λ (u : List ℕ). u ++ z) w.parts ∙ append_assoc old w.done z,
)
  where
    one : (ps : List ParamParts) (after : List ℕ) (todo : List ParamParts) (s : List ℕ) → Each Param todo s
        → rest ≡ s ++ 93 ∷ after → params_text false ps ≡ w.done ++ params_text later todo
        → (w.done ++ z ≡ params_text false ps) × (behind ≡ after)
    one ps after [] s k i g = (
      ap (λ (u : List ℕ). w.done ++ u) zs ∙ sym g,
      b ∙ ap (drop 1) (i ∙ ap (λ (u : List ℕ). u ++ 93 ∷ after) k),
    )
    one ps after (q ∷ todo) s (x, y, j, k, l) i g =
        let p = param_prefix x (q, k) in
        let whole : rest ≡ 32 ∷ ((p.0 ++ y) ++ 93 ∷ after) =
        i ∙ ap (λ (u : List ℕ). u ++ 93 ∷ after) (j ∙ ap (λ (u : List ℕ). u ++ y) p.1) in
        absurd (subst (IfFirst (λ n. n ≢ 32)) whole other refl)

-- ---- an element

element_begun : (later : Bool) (octets behind id params rest old mid new : List ℕ) (n : ℕ) → behind ≡ drop 1 octets
    → IsIdLength behind n → id ≡ take n behind → params ≡ drop n behind
    → Adds (Only (comma_if later ++ quoted id ++ 58 ∷ 91 ∷ [])) old mid
    → Adds (FirstParams params rest) mid new → Adds (FirstElement later octets rest) old new
element_begun later octets behind id params rest old mid new n b len i p (x, xs, xe) (y, ys, ye) = (
  x ++ y,
  λ d after (text, parts, (a, c, e, h, (w, z, f, (valid, name), (u, v, g, each, close)))).
      let inside : octets ≡ 91 ∷ (w ++ (u ++ 93 ∷ after)) =
      parts ∙ rw (e, f, g, h, close) (ap (λ (s : List ℕ). 91 ∷ s)
      (append_assoc w (u ++ 93 ∷ []) after ∙ ap (λ (s : List ℕ). w ++ s) (append_assoc u (93 ∷ []) after))) in
      let behind_is : behind ≡ w ++ (u ++ 93 ∷ after) = b ∙ ap (drop 1) inside in
      let n_is : n ≡ length w = id_ends d.params u after w behind behind_is
      (subst (AllByRecursion IsNameOctet) (sym name) valid.octets) each n len in
      let id_is : id ≡ w = i ∙ rw (n_is, behind_is) (take_at w (u ++ 93 ∷ after) (length w) refl) in
      let params_is : params ≡ u ++ 93 ∷ after = p ∙ rw (n_is, behind_is) (drop_at w (u ++ 93 ∷ after) (length w) refl) in
      let form = ys d.params after
      (u ++ 93 ∷ [], params_is ∙ sym (append_assoc u (93 ∷ []) after), (u, 93 ∷ [], refl, each, refl)) in (
        ap (λ (s : List ℕ). s ++ y) xs
            ∙ ap (λ (s : List ℕ). (comma_if later ++ quoted id ++ 58 ∷ 91 ∷ []) ++ s) form.0
            ∙ append_assoc (comma_if later ++ quoted id) (58 ∷ 91 ∷ []) (params_text false d.params)
            ∙ ap (λ (s : List ℕ). comma_if later ++ quoted s ++ 58 ∷ 91 ∷ params_text false d.params) (id_is ∙ name),
        form.1,
      ),
  ye ∙ ap (λ (c : List ℕ). c ++ y) xe ∙ append_assoc old x y,
)

-- what comes before the parameters
head_is : (c id : List ℕ) → ((c ++ 34 ∷ []) ++ escape id) ++ 34 ∷ 58 ∷ 91 ∷ [] ≡ c ++ quoted id ++ 58 ∷ 91 ∷ []
head_is c id = simp append_assoc

head_put : (later : Bool) (id old m1 m2 m3 : List ℕ) → Adds (Only (comma_if later ++ 34 ∷ [])) old m1
    → Adds (Only (escape id)) m1 m2 → Adds (Only (34 ∷ 58 ∷ 91 ∷ [])) m2 m3
    → Adds (Only (comma_if later ++ quoted id ++ 58 ∷ 91 ∷ [])) old m3
head_put later id old m1 m2 m3 h1 h2 h3 =
    adds_as (Only (((comma_if later ++ 34 ∷ []) ++ escape id) ++ 34 ∷ 58 ∷ 91 ∷ []))
    (Only (comma_if later ++ quoted id ++ 58 ∷ 91 ∷ [])) old m3 (λ s e. e ∙ head_is (comma_if later) id)
    (only_then ((comma_if later ++ 34 ∷ []) ++ escape id) (34 ∷ 58 ∷ 91 ∷ []) old m2 m3
    (only_then (comma_if later ++ 34 ∷ []) (escape id) old m1 m2 h1 h2) h3)

pub element_puts : {E : Type 0} (later : Bool) (octets behind id params old m1 m2 m3 new : List ℕ) (n : ℕ)
    (r : Result (Bor (List ℕ)) E)
    → behind ≡ drop 1 octets → IsIdLength behind n → id ≡ take n behind → params ≡ drop n behind
    → Adds (Only (comma_if later ++ 34 ∷ [])) old m1 → Adds (Only (escape id)) m1 m2
    → Adds (Only (34 ∷ 58 ∷ 91 ∷ [])) m2 m3
    → MatchResult r (λ rest. Adds (FirstParams params rest.now) m3 new) (λ e. Adds Anything m3 new)
    → MatchResult r (λ rest. Adds (FirstElement later octets rest.now) old new) (λ e. Adds Anything old new)
element_puts later octets behind id params old m1 m2 m3 new n (Ok rest) b len i p h1 h2 h3 q =
    element_begun later octets behind id params rest.now old m3 new n b len i p
    (head_put later id old m1 m2 m3 h1 h2 h3) q
element_puts later octets behind id params old m1 m2 m3 new n (Err e) b len i p h1 h2 h3 q =
    adds_some (Only (comma_if later ++ quoted id ++ 58 ∷ 91 ∷ [])) Anything old m3 new
    (head_put later id old m1 m2 m3 h1 h2 h3) q

-- ---- elements

pub record ElementsWritten (elements rest : List ℕ) (later : Bool) (old out : List ℕ) : Type 0 where
  pub done : List ℕ
  pub parts : out ≡ old ++ done
  pub is : (es : List ElementParts) → Each Element es elements
      → (todo : List ElementParts) × Each Element todo rest
      × (elements_text false es ≡ done ++ elements_text later todo)

pub elements_all : (elements old : List ℕ) → ElementsWritten elements elements false old old
elements_all elements old = record { done = []; parts = sym (append-nil old); is = λ es h. (es, h, refl) }

pub elements_begun : (elements rest : List ℕ) (later : Bool) (old out : List ℕ)
    → ElementsWritten elements rest later old out → Adds Anything old out
elements_begun elements rest later old out w = (w.done, tt, w.parts)

pub elements_more : (elements rest behind after : List ℕ) (later : Bool) (old out mid : List ℕ) (x : ℕ)
    → rest ≡ x ∷ after → Adds (FirstElement later rest behind) out mid → ElementsWritten elements rest later old out
    → ElementsWritten elements behind true old mid
elements_more elements rest behind after later old out mid x e (z, zs, ze) w = record {
  done = w.done ++ z;
  parts = ze ∙ ap (λ (u : List ℕ). u ++ z) w.parts ∙ append_assoc old w.done z;
  is = λ es h. let l = w.is es h in one es l.0 l.1 l.2;
}
  where
    one : (es todo : List ElementParts) → Each Element todo rest
        → elements_text false es ≡ w.done ++ elements_text later todo
        → (ks : List ElementParts) × Each Element ks behind
        × (elements_text false es ≡ (w.done ++ z) ++ elements_text true ks)
    one es [] k g = let i : ◌≡◌ {A = List ℕ} [] (x ∷ after) = sym k ∙ e in absurd cc
    one es (d ∷ todo) (t, s, i, k, l) g =
        let form = zs d s (t, i, k) in (
          todo,
          subst (Each Element todo) (sym form.1) l,
          g ∙ ap (λ (u : List ℕ). w.done ++ (u ++ elements_text true todo)) (sym form.0)
              ∙ sym (append_assoc w.done z (elements_text true todo)),
        )

-- no element is left
none_left : (todo : List ElementParts) (rest : List ℕ) → rest ≡ [] → Each Element todo rest → todo ≡ []
none_left [] rest e h = refl
none_left (q ∷ todo) rest e (y, z, i, k, l) =
    let s = element_prefix y (q, k) in
    let j : ◌≡◌ {A = List ℕ} [] (91 ∷ (s.0 ++ z)) = sym e ∙ i ∙ ap (λ (t : List ℕ). t ++ z) s.1 in absurd cc

pub elements_end : {X E : Type 0} (elements rest : List ℕ) (later : Bool) (old out new : List ℕ) (r : Result X E)
    → rest ≡ [] → ElementsWritten elements rest later old out → Puts (Only (125 ∷ [])) out new r
    → Puts (ElementsOf elements) old new r
elements_end elements rest later old out new (Ok x) e w (t, ts, te) = (
  w.done ++ t,
  λ es h.
      let l = w.is es h in
      let none = none_left l.0 rest e l.1 in
      ap (λ (u : List ℕ). w.done ++ u) ts ∙ sym (l.2 ∙ ap (λ (k : List ElementParts). w.done ++ elements_text later k) none),
  te ∙ ap (λ (u : List ℕ). u ++ t) w.parts ∙ append_assoc old w.done t,
)
elements_end elements rest later old out new (Err x) e w a =
    adds_some Anything Anything old out new (elements_begun elements rest later old out w) a

-- ---- structured data

-- no elements
pub data_none : (text after : List ℕ) → text ≡ 45 ∷ after → (b : List ℕ) → Only (125 ∷ []) b → DataOf text b
data_none text after e b h [] d = h
data_none text after e b h (q ∷ es) (y, z, i, k, l) =
    let s = element_prefix y (q, k) in
    let first : 45 ≡ 91 = heads 45 91 after (s.0 ++ z) (sym e ∙ i ∙ ap (λ (t : List ℕ). t ++ z) s.1) in
    absurd (omega (arith, first))

-- elements
pub data_some : (text : List ℕ) → IfFirst (λ x. x ≢ 45) text → (b : List ℕ) → ElementsOf text b → DataOf text b
data_some text other b h [] d = absurd (subst (IfFirst (λ x. x ≢ 45)) d other refl)
data_some text other b h (q ∷ es) d = h (q ∷ es) d
