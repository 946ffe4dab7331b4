-- Texts that are read one after the other, beside their canonical texts.
use Rattle.std.proofs.Common.{◌≡◌, ℕ, ◌-◌, ◌<◌, List, [], ◌∷◌, ◌++◌, length, take, refl, sym, ap, subst, ◌∙◌}
use Rattle.std.proofs.Common.{append_assoc, arith, inl, inr, Bool}
use Rattle.std.specs.Prelude.{◌&&◌, IsTrue, true, false}
use Rattle.std.specs.List.{AllByRecursion, flat_map}
use Rattle.std.proofs.lemmas.Grind.{flat_map-append}
use Rattle.std.proofs.lemmas.List.{append-nil, length-append}
use Rattle.octet_language.specs.Language.{Language, AnyOf, Each, IfFirst}
use Rattle.octet_language.specs.Reading.{Follows}
use Rattle.octet_language.proofs.Lists.{heads, tails}
use Rattle.syslog_value.specs.Parts.{ElementParts}
use Rattle.syslog_fields.specs.Canonical.{escaped, param_form, element_form}
use Rattle.syslog_fields.specs.Forms.{IsForm, ReadsForm, HasForm, BeginsLone, pieces_form, params_form, IsValueForm}
use Rattle.syslog_fields.specs.Forms.{ReadsElement}
use Rattle.syslog_fields.specs.Grammar.{Param}
use Rattle.syslog_fields.specs.Spans.{ParamSpan, SpannedParam, ElementSpan, SpannedElement}
use Rattle.syslog_fields.specs.Values.{IsSpecial, IsPlain, IsPlainOctet, PassesPlain, Piece, Spells}
use Rattle.syslog_fields.proofs.EscapedRuns.{bare}
use Rattle.syslog_fields.proofs.Characters.{character_some}
use Rattle.syslog_fields.proofs.Unescaped.{plain_bare}
use Rattle.syslog_fields.proofs.ValueForms.{escaped_join, escaped_special, joined}
use Rattle.syslog_fields.proofs.Values.{no_special, plain_octet}
use Rattle.std.proofs.Math.Seq.{take-append_seam}

pub form_text : (d : ElementParts) → element_form d ≡ 91 ∷ (d.id ++ (flat_map param_form d.params ++ 93 ∷ []))
form_text d = ap (λ (s : List ℕ). 91 ∷ s) (append_assoc d.id (flat_map param_form d.params) (93 ∷ []))

-- ---- one text after the other

pub both_form : (a b : Bool) (s f t g : List ℕ) → IsForm a s f → IsForm b t g → IsForm (a && b) (s ++ t) (f ++ g)
both_form true true s f t g h k = rw (h, k) refl
both_form true false s f t g h k = omega (arith, length-append s t, length-append f g, ap length h, k)
both_form false true s f t g h k = omega (arith, length-append s t, length-append f g, ap length k, h)
both_form false false s f t g h k = omega (arith, length-append s t, length-append f g, h, k)

-- between texts that are canonical
pub around_form : (a : Bool) (p s f q : List ℕ) → IsForm a s f → IsForm a (p ++ (s ++ q)) (p ++ (f ++ q))
around_form true p s f q h = rw h refl
around_form false p s f q h = omega (
  arith,
  length-append p (s ++ q),
  length-append s q,
  length-append p (f ++ q),
  length-append f q,
  h,
)

pub exact_form : (a : Bool) (s f t g : List ℕ) → IsForm a s f → t ≡ g → IsForm a (s ++ t) (f ++ g)
exact_form true s f t g h k = rw (h, k) refl
exact_form false s f t g h k = omega (arith, length-append s t, length-append f g, ap length k, h)

pub each_end : {V : Type 0} (A : V → Language) (vs : List V) (v : V) (p q : List ℕ) → Each A vs p → A v q
    → Each A (vs ++ v ∷ []) (p ++ q)
each_end A [] v p q h k = (q, [], ap (λ (u : List ℕ). u ++ q) h ∙ sym (append-nil q), k, refl)
each_end A (w ∷ vs) v p q (x, y, g, h, l) k =
    (x, y ++ q, ap (λ (u : List ℕ). u ++ q) g ∙ append_assoc x y q, h, each_end A vs v y q l k)

pub form_end : {V : Type 0} (form : V → List ℕ) (vs : List V) (v : V)
    → flat_map form vs ++ form v ≡ flat_map form (vs ++ v ∷ [])
form_end form vs v = ap (λ (u : List ℕ). flat_map form vs ++ u) (sym (append-nil (form v)))
    ∙ sym (flat_map-append form vs (v ∷ []))

-- no item was read
pub none_read : {V : Type 0} (A : V → Language) (form : V → List ℕ) (b : List ℕ)
    → ReadsForm (Each A) (flat_map form) true b b
none_read A form b = record { value = []; text = []; parts = refl; is = refl; answer = refl }

pub further : (b t u rest after : List ℕ) → b ≡ t ++ rest → rest ≡ u ++ after → b ≡ (t ++ u) ++ after
further b t u rest after e f = e ∙ ap (λ (w : List ℕ). t ++ w) f ∙ sym (append_assoc t u after)

-- one more item
unfoldable pub more_read : {V : Type 0} (A : V → Language) (form : V → List ℕ) (a c : Bool) (b rest after : List ℕ)
    → ReadsForm (Each A) (flat_map form) a b rest → ReadsForm A form c rest after
    → ReadsForm (Each A) (flat_map form) (a && c) b after
more_read A form a c b rest after r s = record {
  value = r.value ++ s.value ∷ [];
  text = r.text ++ s.text;
  parts = further b r.text s.text rest after r.parts s.parts;
  is = each_end A r.value s.value r.text s.text r.is s.is;
  answer = subst (IsForm (a && c) (r.text ++ s.text)) (form_end form r.value s.value)
      (both_form a c r.text (flat_map form r.value) s.text (form s.value) r.answer s.answer);
}

-- one more item that is canonical
pub exact_read : {V : Type 0} (A : V → Language) (form : V → List ℕ) (a : Bool) (b rest after : List ℕ)
    → ReadsForm (Each A) (flat_map form) a b rest → ReadsForm A form true rest after
    → ReadsForm (Each A) (flat_map form) a b after
exact_read A form a b rest after r s = record {
  value = r.value ++ s.value ∷ [];
  text = r.text ++ s.text;
  parts = further b r.text s.text rest after r.parts s.parts;
  is = each_end A r.value s.value r.text s.text r.is s.is;
  answer = subst (IsForm a (r.text ++ s.text)) (form_end form r.value s.value)
      (exact_form a r.text (flat_map form r.value) s.text (form s.value) r.answer s.answer);
}

-- up to a mark: the text is what stands before it
pub taken_form : {V : Type 0} (A : V → Language) (form : V → List ℕ) (a : Bool) (b rest text : List ℕ) (m : ℕ)
    → ReadsForm A form a b (m ∷ rest) → text ≡ take (length b - length rest - 1) b → HasForm A form a text
taken_form A form a b rest text m r e =
    let n : length b - length rest - 1 ≡ length r.text =
    omega (arith, ap length r.parts, length-append r.text (m ∷ rest)) in
    let same : text ≡ r.text = e ∙ ap (λ (k : ℕ). take k b) n ∙ ap (take (length r.text)) r.parts
    ∙ take-append_seam r.text (m ∷ rest) in
    (r.value, subst (A r.value) (sym same) r.is, subst (λ (t : List ℕ). IsForm a t (form r.value)) (sym same) r.answer)

-- ---- pieces of a value

pub plain_read : (a : Bool) (b from rest : List ℕ) → PassesPlain from rest → ReadsForm (Each Piece) pieces_form a b from
    → ReadsForm (Each Piece) pieces_form a b rest
plain_read a b from rest p r = over p.run p.plain (subst (ReadsForm (Each Piece) pieces_form a b) p.parts r)
  where
    one : (x : ℕ) (s : List ℕ) → IsPlainOctet x → ReadsForm Piece escaped true (x ∷ s) s
    one x s h = record {
      value = x ∷ [];
      text = x ∷ [];
      parts = refl;
      is = inr (inr (plain_octet x h, refl));
      answer =
          sym (bare (x ∷ []) (plain_bare (x ∷ []) (plain_octet x h)));
    }

    over : (s : List ℕ) → AllByRecursion IsPlainOctet s → ReadsForm (Each Piece) pieces_form a b (s ++ rest)
        → ReadsForm (Each Piece) pieces_form a b rest
    over [] h k = k
    over (x ∷ s) h k = over s h.1 (exact_read Piece escaped a b (x ∷ (s ++ rest)) (s ++ rest) k (one x (s ++ rest) h.0))

plain_first : (c behind : List ℕ) → IsPlain c → IfFirst (λ x. ¬ (IsSpecial x)) (c ++ behind)
plain_first [] behind h = absurd (character_some h.0)
plain_first (x ∷ c) behind h = λ s. no_special x c s h

not_lone_escape : (rest behind t : List ℕ) (x : ℕ) → IsSpecial x → rest ≡ t ++ behind → t ≡ 92 ∷ x ∷ []
    → ¬ (BeginsLone rest)
not_lone_escape rest behind t x s e i (u, f, none) =
    let after : u ≡ x ∷ behind = tails 92 92 u (x ∷ behind) (sym f ∙ e ∙ ap (λ (w : List ℕ). w ++ behind) i) in
    subst (IfFirst (λ n. ¬ (IsSpecial n))) after none s

not_lone_plain : (rest behind t m : List ℕ) → IsPlain m → rest ≡ t ++ behind → t ≡ m → ¬ (BeginsLone rest)
not_lone_plain rest behind t [] k e i l = character_some k.0
not_lone_plain rest behind t (x ∷ m) k e i (u, f, none) =
    no_special x m (inr (inl (heads x 92 (m ++ behind) u (ap (λ (w : List ℕ). w ++ behind) (sym i) ∙ sym e ∙ f)))) k

lone_plain : (rest behind t c : List ℕ) → IsPlain c → rest ≡ t ++ behind → t ≡ 92 ∷ c → BeginsLone rest
lone_plain rest behind t c k e i = (c ++ behind, e ∙ ap (λ (w : List ℕ). w ++ behind) i, plain_first c behind k)

-- the first piece: canonical where no lone backslash comes first
pub piece_read : (rest behind : List ℕ) (a : Bool) → (IsTrue a → ¬ (BeginsLone rest))
    → ((IsTrue a → ⊥) → BeginsLone rest) → Follows (AnyOf Piece) rest behind → ReadsForm Piece escaped a rest behind
piece_read rest behind true not_lone lone (t, e, (m, inl (x, s, f, i))) =
    record {
      value = m;
      text = t;
      parts = e;
      is = inl (x, s, f, i);
      answer =
          i ∙ sym (escaped_special x [] s) ∙ ap escaped (sym f);
    }
piece_read rest behind true not_lone lone (t, e, (m, inr (inl (c, k, f, i)))) =
    absurd (not_lone refl (lone_plain rest behind t c k e i))
piece_read rest behind true not_lone lone (t, e, (m, inr (inr (k, i)))) =
    record { value = m; text = t; parts = e; is = inr (inr (k, i)); answer = i ∙ sym (bare m (plain_bare m k)) }
piece_read rest behind false not_lone lone (t, e, (m, inl (x, s, f, i))) =
    absurd (not_lone_escape rest behind t x s e i (lone (λ u. absurd cc)))
piece_read rest behind false not_lone lone (t, e, (m, inr (inl (c, k, f, i)))) =
    let form : escaped m ≡ 92 ∷ 92 ∷ c = ap escaped f ∙ escaped_special 92 c (inr (inl refl))
    ∙ ap (λ (u : List ℕ). 92 ∷ 92 ∷ u) (bare c (plain_bare c k)) in
    let longer : length t < length (escaped m) = omega (arith, ap length form, ap length i) in
    record { value = m; text = t; parts = e; is = inr (inl (c, k, f, i)); answer = longer }
piece_read rest behind false not_lone lone (t, e, (m, inr (inr (k, i)))) =
    absurd (not_lone_plain rest behind t m k e i (lone (λ u. absurd cc)))

escaped_pieces : (ms : List (List ℕ)) → flat_map escaped ms ≡ escaped (joined ms)
escaped_pieces [] = refl
escaped_pieces (m ∷ ms) = ap (λ (u : List ℕ). escaped m ++ u) (escaped_pieces ms) ∙ sym (escaped_join m (joined ms))

-- the spelling of a value
pub value_form : (a : Bool) (raw : List ℕ) → HasForm (Each Piece) pieces_form a raw → IsValueForm a raw
value_form a raw (ms, h, f) = (joined ms, (ms, refl, h), subst (IsForm a raw) (escaped_pieces ms) f)

-- ---- parameters and elements

pub param_read : (a : Bool) (v : ParamSpan) (b rest : List ℕ) → Follows (SpannedParam v) b rest → IsValueForm a v.raw
    → ReadsForm Param param_form a b rest
param_read is v b rest (t, parts, (a, d, e, h, (z, w, g, (n, k), (u, s, f, l, (q, r, i, m, (c, o, j, (p, y), x))))))
    (text, spells, form) =
    let whole : t ≡ (32 ∷ (v.name ++ 61 ∷ 34 ∷ [])) ++ (v.raw ++ 34 ∷ []) =
    e ∙ rw (h, g, k, f, l, i, m, j, y, x) (ap (λ (u : List ℕ). 32 ∷ u)
    (sym (append_assoc v.name (61 ∷ 34 ∷ []) (v.raw ++ 34 ∷ [])))) in
    let formed : param_form (record { name = v.name; value = text })
    ≡ (32 ∷ (v.name ++ 61 ∷ 34 ∷ [])) ++ (escaped text ++ 34 ∷ []) =
    ap (λ (u : List ℕ). 32 ∷ u) (append_assoc v.name (61 ∷ 34 ∷ escaped text) (34 ∷ [])
    ∙ sym (append_assoc v.name (61 ∷ 34 ∷ []) (escaped text ++ 34 ∷ []))) in
    record {
      value = record { name = v.name; value = text };
      text = t;
      parts = parts;
      is = (
        a,
        d,
        e,
        h,
        (
          z,
          w,
          g,
          (n, k),
          (
            61 ∷ 34 ∷ [],
            c ++ o,
            f
                ∙ rw (l, i, m, j) refl,
            refl,
            (c, o, refl, subst (Spells text) (sym y) spells, x),
          ),
        ),
      );
      answer = subst (λ (u : List ℕ). IsForm is u (param_form (record { name = v.name; value = text }))) (sym whole)
          (subst (IsForm is ((32 ∷ (v.name ++ 61 ∷ 34 ∷ [])) ++ (v.raw ++ 34 ∷ []))) (sym formed)
          (around_form is (32 ∷ (v.name ++ 61 ∷ 34 ∷ [])) v.raw (escaped text) (34 ∷ []) form));
    }

pub element_read : (a : Bool) (v : ElementSpan) (b rest : List ℕ) → Follows (SpannedElement v) b rest
    → HasForm (Each Param) params_form a v.params → ReadsElement a v.id b rest
element_read is v b rest (t, parts, (a, d, e, h, (z, w, g, (n, k), (u, s, f, (l, y), x)))) (ps, each, form) =
    let whole : t ≡ (91 ∷ v.id) ++ (v.params ++ 93 ∷ []) = e ∙ rw (h, g, k, f, y, x) refl in (
      record {
        value = record { id = v.id; params = ps };
        text = t;
        parts = parts;
        is = (a, d, e, h, (z, w, g, (n, k), (u, s, f, subst (Each Param ps) (sym y) each, x)));
        answer = subst (λ (u : List ℕ). IsForm is u (element_form (record { id = v.id; params = ps }))) (sym whole)
            (subst (IsForm is ((91 ∷ v.id) ++ (v.params ++ 93 ∷ [])))
            (sym (form_text (record { id = v.id; params = ps })))
            (around_form is (91 ∷ v.id) v.params (params_form ps) (93 ∷ []) form));
      },
      refl,
    )
