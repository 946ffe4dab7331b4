-- Structured data that is read element by element, beside its canonical text.
use Rattle.std.proofs.Common.{◌≡◌, ℕ, ◌-◌, List, [], ◌∷◌, ◌++◌, length, take, refl, sym, ap, subst, ◌∙◌, arith}
use Rattle.std.proofs.Common.{inl, inr, ◌⊎◌, Bool}
use Rattle.std.specs.Prelude.{◌↔◌, ◌&&◌, IsTrue, true, false, Option, Some, None}
use Rattle.std.proofs.lemmas.List.{append-nil, length-append, map-append}
use Rattle.octet_language.specs.Language.{Each}
use Rattle.syslog_value.specs.Parts.{ElementParts, IsById}
use Rattle.syslog_value.specs.Structured.{HasId}
use Rattle.syslog_fields.specs.Canonical.{element_form, structured_data_form}
use Rattle.syslog_fields.specs.Forms.{IsForm, ReadsForm, ReadsElement}
use Rattle.syslog_fields.specs.Grammar.{Element, StructuredDataText}
use Rattle.syslog_fields.specs.Spans.{EndsStructuredData}
use Rattle.syslog_fields.proofs.ParamTexts.{element_prefix}
use Rattle.syslog_fields.proofs.ReadForms.{more_read}
use Rattle.syslog_reading.specs.Faults.{AreDistinct}
use Rattle.syslog_reading.specs.FewIds.{IsNew, Keeps}
use Rattle.syslog_reading.specs.DataForms.{elements_form, ReadsElements, HasDataForms}
use Rattle.syslog_reading.specs.Ids.{IdsDiffer, IsAbove, IsAtMost, IsRisingFrom, ids_of}
use Rattle.syslog_reading.specs.declared.few_ids.FewIds.{FewIds}
use Rattle.syslog_reading.proofs.ById.{distinct_by_id}
use Rattle.syslog_reading.proofs.Rising.{none_met, not_above, of_rising, rising_of}
use Rattle.syslog_reading.proofs.OneMeaning.{data_same}
use Rattle.syslog_reading.proofs.Repeating.{distinct_end}
use Rattle.std.proofs.Math.Seq.{take-append_seam}

-- ---- ids that ascend

-- the last id
pub last_id : Option (List ℕ) → List (List ℕ) → Option (List ℕ)
last_id met [] = met
last_id met (id ∷ ids) = last_id (Some id) ids

last_end : (met : Option (List ℕ)) (ids : List (List ℕ)) (id : List ℕ) → last_id met (ids ++ id ∷ []) ≡ Some id
unfolding last_id
last_end met [] id = refl
last_end met (i ∷ ids) id = last_end (Some i) ids id

rises_end : (met : Option (List ℕ)) (ids : List (List ℕ)) (id : List ℕ) → IsRisingFrom met ids
    → IsAbove id (last_id met ids) → IsRisingFrom met (ids ++ id ∷ [])
unfolding last_id
rises_end met [] id h a = (a, tt)
rises_end met (i ∷ ids) id h a = (h.0, rises_end (Some i) ids id h.1 a)

rose : (met : Option (List ℕ)) (ids : List (List ℕ)) (id : List ℕ) → IsRisingFrom met (ids ++ id ∷ [])
    → IsRisingFrom met ids × IsAbove id (last_id met ids)
unfolding last_id
rose met [] id h = (tt, h.0)
rose met (i ∷ ids) id h = let k = rose (Some i) ids id h.1 in ((h.0, k.0), k.1)

-- ---- the loop

pub record ElementsRead (is_form ascends differ : Bool) (few : FewIds) (met : Option (List ℕ)) (b rest : List ℕ)
    : Type 0 where
  pub read : ReadsForm (Each Element) elements_form is_form b rest
  pub rising : IsTrue ascends ↔ IsRisingFrom None (ids_of read.value)
  pub last : last_id None (ids_of read.value) ≡ met
  pub distinct : IsTrue differ → AreDistinct read.value
  pub kept : Keeps few (ids_of read.value)

pub first_read : (a : Bool) (few : FewIds) (id b rest : List ℕ) → Keeps few (id ∷ []) → ReadsElement a id b rest
    → ElementsRead a true true few (Some id) b rest
unfolding last_id
first_read a few id b rest keeps (r, same) = record {
  read = record {
    value = r.value ∷ [];
    text = r.text;
    parts = r.parts;
    is = (r.text, [], sym (append-nil r.text), r.is, refl);
    answer = subst (IsForm a r.text) (sym (append-nil (element_form r.value))) r.answer;
  };
  rising = (λ u. (tt, tt), λ u. refl);
  last = ap (λ (i : List ℕ). Some i) same;
  distinct = λ u. ((λ h. h), tt);
  kept = subst (λ (i : List ℕ). Keeps few (i ∷ [])) (sym same) keeps;
}

rises_both : (a r : Bool) (ids : List (List ℕ)) (id : List ℕ) (met : Option (List ℕ))
    → (IsTrue a ↔ IsRisingFrom None ids) → last_id None ids ≡ met → (IsTrue r → IsAbove id met)
    → ((IsTrue r → ⊥) → IsAtMost id met) → IsTrue (a && r) ↔ IsRisingFrom None (ids ++ id ∷ [])
rises_both true true ids id met rising last above most =
    (λ u. rises_end None ids id (rising.0 refl) (subst (IsAbove id) (sym last) (above refl)), λ u. refl)
rises_both true false ids id met rising last above most = (
  λ u. absurd cc,
  λ h. absurd (not_above id met (most (λ u. absurd cc))
      (subst (IsAbove id) last (rose None ids id h).1)),
)
rises_both false true ids id met rising last above most = (λ u. absurd cc, λ h. rising.1 (rose None ids id h).0)
rises_both false false ids id met rising last above most = (λ u. absurd cc, λ h. rising.1 (rose None ids id h).0)

-- an id that none of the others is
apart : (id : List ℕ) (es : List ElementParts) → IsNew id (ids_of es) → ¬ (HasId id es)
apart id [] new h = h
apart id (e ∷ es) new (inl same) = new.0 same
apart id (e ∷ es) new (inr h) = apart id es new.1 h

-- ids differ still, since they ascend, or since the last is none of those before it
differ_both : (d n ascends : Bool) (few : FewIds) (es : List ElementParts) (e : ElementParts) (id : List ℕ) → id ≡ e.id
    → (IsTrue n → IsTrue ascends ⊎ ((before : List (List ℕ)) → Keeps few before → IsNew id before))
    → (IsTrue ascends → IsRisingFrom None (ids_of (es ++ e ∷ []))) → Keeps few (ids_of es)
    → (IsTrue d → AreDistinct es) → IsTrue (d && n) → AreDistinct (es ++ e ∷ [])
differ_both true true ascends few es e id same new rising keeps distinct u = elim (new refl) [
  | inl up ↦ distinct_by_id (es ++ e ∷ []) (of_rising None (es ++ e ∷ []) (rising up)).1
  | inr none ↦ distinct_end es e (distinct refl) (apart e.id es
      (subst (λ (i : List ℕ). IsNew i (ids_of es)) same (none (ids_of es) keeps)))
]
differ_both true false ascends few es e id same new rising keeps distinct u = absurd cc
differ_both false n ascends few es e id same new rising keeps distinct u = absurd cc

pub next_read : (a c ascends r d n : Bool) (few more : FewIds) (id b rest after : List ℕ) (met : Option (List ℕ))
    → (IsTrue r → IsAbove id met) → ((IsTrue r → ⊥) → IsAtMost id met)
    → (IsTrue n → IsTrue (ascends && r) ⊎ ((before : List (List ℕ)) → Keeps few before → IsNew id before))
    → ((ids : List (List ℕ)) → Keeps few ids → Keeps more (ids ++ id ∷ []))
    → ReadsElement c id rest after → ElementsRead a ascends d few met b rest
    → ElementsRead (a && c) (ascends && r) (d && n) more (Some id) b after
unfolding more_read
next_read a c ascends r d n few more id b rest after met above most new takes (s, same) h =
    let ids : ids_of (h.read.value ++ s.value ∷ []) ≡ ids_of h.read.value ++ id ∷ [] =
    map-append (λ (e : ElementParts). e.id) h.read.value (s.value ∷ [])
    ∙ ap (λ (i : List ℕ). ids_of h.read.value ++ i ∷ []) same in
    let rising = subst (λ (k : List (List ℕ)). IsTrue (ascends && r) ↔ IsRisingFrom None k) (sym ids)
    (rises_both ascends r (ids_of h.read.value) id met h.rising h.last above most) in
    record {
      read = more_read Element element_form a c b rest after h.read s;
      rising = rising;
      distinct = differ_both d n (ascends && r) few h.read.value s.value id (sym same) new rising.0 h.kept h.distinct;
      kept = subst (Keeps more) (sym ids) (takes (ids_of h.read.value) h.kept);
      last = ap (last_id None) ids ∙ last_end None (ids_of h.read.value) id;
    }

pub all_read : (a ascends d : Bool) (few : FewIds) (met : Option (List ℕ)) (b rest : List ℕ)
    → ElementsRead a ascends d few met b rest → ReadsElements a ascends d b rest
all_read a ascends d few met b rest h = (h.read, h.rising, h.distinct)

-- ---- the whole

form_iff : (a : Bool) (text form : List ℕ) → IsForm a text form → IsTrue a ↔ (text ≡ form)
form_iff true text form h = (λ u. h, λ u. refl)
form_iff false text form h = (λ u. absurd cc, λ e. absurd (omega (arith, ap length e, h)))

by_id_iff : (a : Bool) (es : List ElementParts) → (IsTrue a ↔ IsRisingFrom None (ids_of es)) → IsTrue a ↔ IsById es
by_id_iff a es h = (λ u. (of_rising None es (h.0 u)).1, λ k. h.1 (rising_of None es (none_met es) k))

pub one_data : (es fs : List ElementParts) (text : List ℕ) → StructuredDataText es text → StructuredDataText fs text
    → es ≡ fs
one_data es fs text h k = (data_same es fs text [] text [] h k tt tt refl).0

-- NILVALUE
pub nil_forms : (text : List ℕ) → text ≡ 45 ∷ [] → HasDataForms true true text
nil_forms text e es h =
    let same : [] ≡ es = one_data [] es text e h in
    subst (λ (k : List ElementParts). (IsTrue true ↔ (text ≡ structured_data_form k)) × (IsTrue true ↔ IsById k)) same
    ((λ u. e, λ u. refl), (λ u. tt, λ u. refl))

no_data : (es : List ElementParts) → ¬ (StructuredDataText es [])
no_data [] h = let i : ◌≡◌ {A = List ℕ} [] (45 ∷ []) = h in absurd cc
no_data (d ∷ es) (x, y, g, h, k) =
    let f = element_prefix x (d, h) in
    let i : ◌≡◌ {A = List ℕ} [] (91 ∷ (f.0 ++ y)) = g ∙ ap (λ (u : List ℕ). u ++ y) f.1 in absurd cc

some_differ : (es : List ElementParts) (text : List ℕ) → Each Element es text → AreDistinct es → IdsDiffer text
some_differ [] text h distinct es k = absurd (no_data es (subst (StructuredDataText es) h k))
some_differ (d ∷ ds) text h distinct es k = subst AreDistinct (one_data (d ∷ ds) es text h k) distinct

some_forms : (a ascends : Bool) (es : List ElementParts) (text : List ℕ) → Each Element es text
    → IsForm a text (elements_form es) → (IsTrue ascends ↔ IsRisingFrom None (ids_of es)) → HasDataForms a ascends text
some_forms a ascends [] text h f r es k = absurd (no_data es (subst (StructuredDataText es) h k))
some_forms a ascends (d ∷ ds) text h f r es k =
    let same : d ∷ ds ≡ es = one_data (d ∷ ds) es text h k in
    subst (λ (u : List ElementParts). (IsTrue a ↔ (text ≡ structured_data_form u)) × (IsTrue ascends ↔ IsById u)) same
    (form_iff a text (elements_form (d ∷ ds)) f, by_id_iff ascends (d ∷ ds) r)

-- the text that was read
text_read : (a : Bool) (b rest text : List ℕ) (r : ReadsForm (Each Element) elements_form a b rest)
    → text ≡ take (length b - length rest) b → text ≡ r.text
text_read a b rest text r e =
    let n : length b - length rest ≡ length r.text = omega (arith, ap length r.parts, length-append r.text rest) in
    e ∙ ap (λ (k : ℕ). take k b) n ∙ ap (take (length r.text)) r.parts ∙ take-append_seam r.text rest

pub data_differ : (a ascends d : Bool) (b rest text : List ℕ) → ReadsElements a ascends d b rest
    → text ≡ take (length b - length rest) b → IsTrue d → IdsDiffer text
data_differ a ascends d b rest text (r, rising, distinct) e u =
    some_differ r.value text (subst (Each Element r.value) (sym (text_read a b rest text r e)) r.is) (distinct u)

pub data_forms : (a ascends d : Bool) (b rest text : List ℕ) → ReadsElements a ascends d b rest
    → text ≡ take (length b - length rest) b → HasDataForms a ascends text
data_forms a ascends d b rest text (r, rising, distinct) e =
    let same = text_read a b rest text r e in
    some_forms a ascends r.value text (subst (Each Element r.value) (sym same) r.is)
    (subst (λ (t : List ℕ). IsForm a t (elements_form r.value)) (sym same) r.answer) rising

pub nil_differ : (text : List ℕ) → text ≡ 45 ∷ [] → IdsDiffer text
nil_differ text e es h = subst AreDistinct (one_data [] es text e h) tt

pub data_nil : (b behind text : List ℕ) (x : ℕ) → b ≡ x ∷ behind → x ≡ 45 → text ≡ take 1 b → text ≡ 45 ∷ []
data_nil b behind text x e f t = t ∙ ap (take 1) e ∙ ap (λ (n : ℕ). n ∷ []) f

pub nil_ends : (b behind text : List ℕ) (x : ℕ) → b ≡ x ∷ behind → x ≡ 45 → text ≡ 45 ∷ []
    → EndsStructuredData b text behind
nil_ends b behind text x e f t = (e ∙ ap (λ (n : ℕ). n ∷ behind) f ∙ ap (λ (u : List ℕ). u ++ behind) (sym t), inl t)
