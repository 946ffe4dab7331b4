-- Items that are read one by one, their canonical texts, and elements by id.
use Rattle.std.proofs.Common.{◌≡◌, ℕ, List, [], ◌∷◌, ◌++◌, refl, sym, ap, subst, ◌∙◌, append_assoc, Bool}
use Rattle.std.specs.Prelude.{◌↔◌, IsTrue}
use Rattle.octet_language.specs.Language.{Language, AnyOf, Each, IsPrefixFree}
use Rattle.octet_language.specs.Reading.{Follows}
use Rattle.syslog_value.specs.Parts.{ParamParts, ElementParts}
use Rattle.std.specs.Prelude.{◌&&◌, true, false}
use Rattle.std.proofs.Math.Logic.{∥∥₁_elim}
use Rattle.syslog_value.specs.Parts.{IsById}
use Rattle.syslog_fields.specs.Canonical.{escaped, param_form, structured_data_form}
use Rattle.syslog_fields.specs.Grammar.{Element, StructuredDataText}
use Rattle.syslog_fields.specs.FirstElements.{SplitsElement}
use Rattle.syslog_fields.specs.Spans.{ElementSpan, SpannedElement}
use Rattle.syslog_fields.proofs.ParamTexts.{IsPrefixFree-element, spanned_element}
use Rattle.syslog_reading.proofs.OneMeaning.{by_prefix}
use Rattle.syslog_reading.specs.DataForms.{HasDataForms}
use Rattle.syslog_reading.proofs.Props.{by_id_prop, texts_set}
use Rattle.syslog_grammar.specs.ElementOrders.{IsInOrder}
use Rattle.syslog_grammar.specs.declared.canonical_form.ElementOrder.{ElementOrder}
use Rattle.syslog_grammar.specs.Reescaped.{ElementsOf, StructuredDataOf}
use Rattle.syslog_grammar.specs.declared.canonical_form.ElementOrder.TheVariants.{ById, AsGiven}

-- ---- one item

-- the first item, where a reader of it took its text
pub item : {V W : Type 0} (A : V → Language) (S : W → Language) → IsPrefixFree (AnyOf A)
    → ((s : List ℕ) → AnyOf S s → AnyOf A s)
    → (v : V) (vs : List V) (w : W) (rest behind : List ℕ) → Each A (v ∷ vs) rest → Follows (S w) rest behind
    → (x : List ℕ) × (rest ≡ x ++ behind) × A v x × S w x × Each A vs behind
item A S one from v vs w rest behind (x, y, e, h, k) (t, f, s) =
    let both = by_prefix (AnyOf A) x y t behind one (v, h) (from t (w, s)) (sym e ∙ f) in
    (t, f, subst (A v) both.0 h, s, subst (Each A vs) both.1 k)

-- ---- parameters

pub form_raw : (p : ParamParts) → param_form p ≡ 32 ∷ (p.name ++ 61 ∷ 34 ∷ (escaped p.value ++ 34 ∷ []))
form_raw p = ap (λ (s : List ℕ). 32 ∷ s) (append_assoc p.name (61 ∷ 34 ∷ escaped p.value) (34 ∷ []))

-- ---- elements

-- the first of the elements that are left
pub record Item (v : ElementSpan) (rest behind : List ℕ) (todo : List ElementParts) : Type 0 where
  pub element : ElementParts
  pub others : List ElementParts
  pub is : todo ≡ element ∷ others
  pub text : List ℕ
  pub parts : rest ≡ text ++ behind
  pub parse : Element element text
  pub spanned : SpannedElement v text
  pub each : Each Element others behind

pub first_item : (rest behind after : List ℕ) (x : ℕ) (v : ElementSpan) (todo : List ElementParts) → rest ≡ x ∷ after
    → SplitsElement rest v behind → Each Element todo rest → Item v rest behind todo
first_item rest behind after x v [] e f k = let i : ◌≡◌ {A = List ℕ} [] (x ∷ after) = sym k ∙ e in absurd cc
first_item rest behind after x v (d ∷ todo) e f k =
    let i = item Element SpannedElement IsPrefixFree-element spanned_element d todo v rest behind k
    (f k.1 (k.0, k.2, (d, k.3))) in
    record { element = d; others = todo; is = refl; text = i.0; parts = i.1; parse = i.2; spanned = i.3; each = i.4 }

-- ---- the whole

-- the answer of the test of structured data
abbrev pub DataAnswer : ElementOrder → Bool → List ℕ → Type 0
DataAnswer order r text = (es : List ElementParts) → StructuredDataText es text
    → IsTrue r ↔ ((text ≡ structured_data_form es) × IsInOrder order es)

both_iff : (a b : Bool) (P Q : Type 0) → (IsTrue a ↔ P) → (IsTrue b ↔ Q) → IsTrue (a && b) ↔ (P × Q)
both_iff true true P Q h k = (λ u. (h.0 refl, k.0 refl), λ p. refl)
both_iff true false P Q h k = (λ u. absurd cc, λ p. k.1 p.1)
both_iff false true P Q h k = (λ u. absurd cc, λ p. h.1 p.0)
both_iff false false P Q h k = (λ u. absurd cc, λ p. h.1 p.0)

pub forms_by_id : (a ascends r : Bool) → r ≡ (a && ascends) → (text : List ℕ) → HasDataForms a ascends text
    → DataAnswer ById r text
forms_by_id a ascends r e text h es d =
    subst (λ (x : Bool). IsTrue x ↔ ((text ≡ structured_data_form es) × IsById es)) (sym e)
    (both_iff a ascends (text ≡ structured_data_form es) (IsById es) (h es d).0 (h es d).1)

pub forms_any : (a ascends : Bool) (text : List ℕ) → HasDataForms a ascends text → DataAnswer AsGiven a text
forms_any a ascends text h es d = (λ u. ((h es d).0.0 u, tt), λ p. (h es d).0.1 p.0)

-- canonical as it lies, but for the order
pub kept_form : (a ascends : Bool) (text : List ℕ) → ∥ HasDataForms a ascends text ∥₁ → a ≡ true
    → StructuredDataOf text text
kept_form a ascends text h f es d =
    ∥∥₁_elim h (texts_set text (structured_data_form es)) (λ k. (k es d).0.0 f)

-- not canonical as it lies, so there are elements
pub kept_elements : (a ascends : Bool) (text : List ℕ) → ∥ HasDataForms a ascends text ∥₁ → a ≡ false
    → (b : List ℕ) → ElementsOf text b → StructuredDataOf text b
kept_elements a ascends text h f b k [] d =
    absurd (∥∥₁_elim h (λ x y. absurd x) (λ g. let i : a ≡ true = (g [] d).0.1 d in
    let j : false ≡ true = sym f ∙ i in absurd cc))
kept_elements a ascends text h f b k (e ∷ es) d = k (e ∷ es) d

-- by id
pub kept_by_id : (a ascends : Bool) (text : List ℕ) → ∥ HasDataForms a ascends text ∥₁ → ascends ≡ true
    → (es : List ElementParts) → StructuredDataText es text → IsById es
kept_by_id a ascends text h f es d = ∥∥₁_elim h (by_id_prop es) (λ k. (k es d).1.0 f)

-- not by id
pub kept_unordered : (a ascends : Bool) (text : List ℕ) → ∥ HasDataForms a ascends text ∥₁ → ascends ≡ false
    → (es : List ElementParts) → StructuredDataText es text → ¬ (IsById es)
kept_unordered a ascends text h f es d by_id =
    ∥∥₁_elim h (λ x y. absurd x) (λ k. let g : ascends ≡ true = (k es d).1.1 by_id in let i : false ≡ true = sym f ∙ g
    in absurd cc)
