-- Structured data that is written from its octets.
use Rattle.std.proofs.Common.{◌≡◌, ℕ, List, [], ◌∷◌, ◌++◌, refl, sym, ap, subst, ◌∙◌, append_assoc}
use Rattle.std.specs.Prelude.{ℤ, Bool, IsTrue, Option}
use Rattle.std.specs.List.{flat_map}
use Rattle.std.proofs.lemmas.List.{append-nil}
use Rattle.std.proofs.lemmas.List.Sorted.{IsPermutation-refl}
use Rattle.octet_language.specs.Language.{Only, ◌⋅◌, Each}
use Rattle.syslog_value.specs.Parts.{ElementParts, Parts, IsById}
use Rattle.syslog_fields.specs.Appending.{Adds}
use Rattle.syslog_fields.specs.Canonical.{element_form, message_form, HeaderForm, SpacedWord}
use Rattle.syslog_fields.specs.Grammar.{Element, StructuredDataText, WordFields}
use Rattle.syslog_fields.specs.Time.{CivilTime}
use Rattle.syslog_fields.proofs.ParamTexts.{element_prefix}
use Rattle.syslog_reading.specs.ViewParts.{ViewParts, HasParts, IsViewOf}
use Rattle.syslog_reading.specs.WellFormed.{IsMeaning, AddsCanonical}
use Rattle.syslog_grammar.specs.Verbatim.{HasOneMessageForm, ShownHeader, VerbatimForm}
use Rattle.syslog_grammar.specs.Reescaped.{ElementsOf, FirstElement, StructuredDataOf}
use Rattle.syslog_grammar.specs.Sorting.{SortedDataOf}
use Rattle.syslog_grammar.proofs.CanonicalForms.{word_formed}

-- ---- elements

pub record ElementsWritten (elements rest old out : List ℕ) : Type 0 where
  pub done : List ℕ
  pub parts : out ≡ old ++ done
  pub is : (es : List ElementParts) → Each Element es elements
      → (todo : List ElementParts) × Each Element todo rest
      × (flat_map element_form es ≡ done ++ flat_map element_form todo)

pub elements_all : (elements old : List ℕ) → ElementsWritten elements elements old old
elements_all elements old = record { done = []; parts = sym (append-nil old); is = λ es h. (es, h, refl) }

pub elements_more : (elements rest behind after old out mid : List ℕ) (x : ℕ) → rest ≡ x ∷ after
    → Adds (FirstElement rest behind) out mid → ElementsWritten elements rest old out
    → ElementsWritten elements behind old mid
elements_more elements rest behind after old out mid x e (z, zs, ze) w = record {
  done = w.done ++ z;
  parts = ze ∙ ap (λ (u : List ℕ). u ++ z) w.parts ∙ append_assoc old w.done z;
  is = λ es h. let l = w.is es h in one es l.0 l.1 l.2;
}
  where
    one : (es todo : List ElementParts) → Each Element todo rest
        → flat_map element_form es ≡ w.done ++ flat_map element_form todo
        → (ks : List ElementParts) × Each Element ks behind
        × (flat_map element_form es ≡ (w.done ++ z) ++ flat_map element_form ks)
    one es [] k g = let i : ◌≡◌ {A = List ℕ} [] (x ∷ after) = sym k ∙ e in absurd cc
    one es (d ∷ todo) (t, s, i, k, l) g =
        let form = zs d s (t, i, k) in (
          todo,
          subst (Each Element todo) (sym form.1) l,
          g ∙ ap (λ (u : List ℕ). w.done ++ (u ++ flat_map element_form todo)) (sym form.0)
              ∙ sym (append_assoc w.done z (flat_map element_form todo)),
        )

pub elements_end : (elements rest old out : List ℕ) → rest ≡ [] → ElementsWritten elements rest old out
    → Adds (ElementsOf elements) old out
elements_end elements rest old out e w = (w.done, λ es h. let l = w.is es h in one es l.0 l.1 l.2, w.parts)
  where
    one : (es todo : List ElementParts) → Each Element todo rest
        → flat_map element_form es ≡ w.done ++ flat_map element_form todo → w.done ≡ flat_map element_form es
    one es [] k g = sym (g ∙ append-nil w.done)
    one es (q ∷ todo) (y, z, i, k, l) g =
        let s = element_prefix y (q, k) in
        let j : ◌≡◌ {A = List ℕ} [] (91 ∷ (s.0 ++ z)) = sym e ∙ i ∙ ap (λ (t : List ℕ). t ++ z) s.1 in absurd cc

-- ---- the record

-- the elements of structured data stand by id
abbrev pub IsOrdered : List ℕ → Type 0
IsOrdered text = (es : List ElementParts) → StructuredDataText es text → IsById es

-- the record that is shown, where its elements stand by id
abbrev view_record : ViewParts → List ElementParts → Parts ℤ
view_record s es = record {
  priority = s.priority;
  time = s.instant;
  hostname = s.hostname;
  app_name =
      s.app_name;
  proc_id = s.proc_id;
  msg_id = s.msg_id;
  elements = es;
  message = s.message;
}

view_is : (b : List ℕ) (s : ViewParts) (p : Parts CivilTime) → HasParts b p s → IsById p.elements
    → IsMeaning p (view_record s p.elements)
view_is b s p h by_id = record {
  priority = h.priority;
  time = h.instant;
  hostname = h.hostname;
  app_name =
      h.app_name;
  proc_id = h.proc_id;
  msg_id = h.msg_id;
  elements = IsPermutation-refl p.elements;
  by_id =
      by_id;
  message = h.message;
}

pub record_written : (s : ViewParts) (old m1 m2 new : List ℕ) → Adds (ShownHeader s) old m1
    → Adds (StructuredDataOf s.elements) m1 m2 → IsOrdered s.elements → Adds (Only (message_form s.message)) m2 new
    → (b : List ℕ) → IsViewOf b s → AddsCanonical b old new
record_written s old m1 m2 new (x, xh, xe) (y, yh, ye) ordered (z, zh, ze) b (p, parse, range, distinct, h) =
    let elements = yh p.elements h.elements in (
      view_record s p.elements,
      (p, parse, range, distinct, view_is b s p h (ordered p.elements h.elements)),
      (
        x ++ (y ++ z),
        (x, y ++ z, refl, xh, (y, z, refl, elements, zh)),
        ze
            ∙ ap (λ (u : List ℕ). u ++ z) (ye ∙ ap (λ (u : List ℕ). u ++ y) xe) ∙ append_assoc (old ++ x) y z
            ∙ append_assoc old x (y ++ z),
      ),
    )

pub record_sorted : (a : Bool) (s : ViewParts) (old m1 m2 new : List ℕ) → Adds (ShownHeader s) old m1
    → Adds (SortedDataOf a s.elements) m1 m2 → (IsTrue a → StructuredDataOf s.elements s.elements)
    → Adds (Only (message_form s.message)) m2 new → (b : List ℕ) → IsViewOf b s
    → AddsCanonical b old new
record_sorted a s old m1 m2 new (x, xh, xe) (y, yh, ye) form (z, zh, ze) b (p, parse, range, distinct, h) =
    let k = yh p.elements h.elements (λ u. form u p.elements h.elements) in (
      view_record s k.0,
      (
        p,
        parse,
        range,
        distinct,
        record {
          priority = h.priority;
          time = h.instant;
          hostname = h.hostname;
          app_name =
              h.app_name;
          proc_id = h.proc_id;
          msg_id = h.msg_id;
          elements = k.1;
          by_id = k.2;
          message = h.message;
        },
      ),
      (
        x ++ (y ++ z),
        (x, y ++ z, refl, xh, (y, z, refl, k.3, zh)),
        ze
            ∙ ap (λ (u : List ℕ). u ++ z) (ye ∙ ap (λ (u : List ℕ). u ++ y) xe) ∙ append_assoc (old ++ x) y z
            ∙ append_assoc old x (y ++ z),
      ),
    )

-- ---- what lies in the octets

-- the words of a text are canonical
words_formed : (h a p m : Option (List ℕ)) (b : List ℕ) → WordFields h a p m b
    → (SpacedWord h ⋅ SpacedWord a ⋅ SpacedWord p ⋅ SpacedWord m) b
words_formed h a p m b (x, y, e, k, (x', y', e', k', (x'', y'', e'', k'', l))) = (
  x,
  y,
  e,
  word_formed 255 h x k,
  (
    x',
    y',
    e',
    word_formed 48 a x' k',
    (x'', y'', e'', word_formed 128 p x'' k'', word_formed 32 m y'' l),
  ),
)

-- seven texts, one after the other
seven : (o f t g w e l : List ℕ) → ((o ++ (f ++ ((t ++ g) ++ w))) ++ e) ++ l ≡ o ++ (f ++ (t ++ (g ++ (w ++ (e ++ l)))))
seven o f t g w e l =
    append_assoc (o ++ (f ++ ((t ++ g) ++ w))) e l ∙ append_assoc o (f ++ ((t ++ g) ++ w)) (e ++ l)
    ∙ ap (λ (x : List ℕ). o ++ x) (append_assoc f ((t ++ g) ++ w) (e ++ l)
    ∙ ap (λ (x : List ℕ). f ++ x) (append_assoc (t ++ g) w (e ++ l) ∙ append_assoc t g (w ++ (e ++ l))))

pub record_verbatim : (s : ViewParts) (old new : List ℕ) → HasOneMessageForm s.message
    → StructuredDataOf s.elements s.elements → IsOrdered s.elements → Adds (VerbatimForm s) old new → (b : List ℕ)
    → IsViewOf b s → AddsCanonical b old new
unfolding HeaderForm VerbatimForm
record_verbatim s old new one dataform ordered (
  text,
  (prefix, t1, e1, f, (time, t2, e2, t, (space, behind, e3, sp, be))),
  whole,
) b has_parts =
    let (ws, t3, e4, words, (d, tl, e5, is, message_part)) = has_parts.4.behind_time in
    let header : List ℕ = prefix ++ ((time ++ space) ++ ws) in
    let reported : text ≡ prefix ++ (time ++ (space ++ (ws ++ (s.elements ++ tl)))) =
    e1 ∙ ap (λ (x : List ℕ). prefix ++ x) (e2
    ∙ ap (λ (x : List ℕ). time ++ x) (e3 ∙ ap (λ (x : List ℕ). space ++ x)
    (be ∙ e4 ∙ ap (λ (x : List ℕ). ws ++ x) (e5 ∙ ap (λ (x : List ℕ). x ++ tl) is)))) in
    let all : new ≡ ((old ++ header) ++ s.elements) ++ tl =
    whole ∙ ap (λ (x : List ℕ). old ++ x) reported ∙ sym (seven old prefix time space ws s.elements tl) in
    record_written s old (old ++ header) ((old ++ header) ++ s.elements) new (
      header,
      (
        prefix,
        (time ++ space) ++ ws,
        refl,
        f,
        (
          time ++ space,
          ws,
          refl,
          (time, space, refl, t, sp),
          words_formed s.hostname s.app_name s.proc_id s.msg_id ws words,
        ),
      ),
      refl,
    )
    (s.elements, dataform, refl) ordered
    (tl, one tl message_part, all) b has_parts
