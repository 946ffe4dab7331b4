-- Elements one by one, and the first id that repeats an earlier one.
use Rattle.std.proofs.Common.{◌≡◌, ◌≢◌, ℕ, ◌+◌, ◌-◌, List, [], ◌∷◌, ◌++◌, length, take, refl, sym, ap, subst, ◌∙◌}
use Rattle.std.proofs.Common.{append_assoc, arith, inl, inr, ◌⊎◌}
use Rattle.std.specs.Prelude.{Some, IsTrue, ◌↔◌, Bool, true, false}
use Rattle.std.specs.List.{AllByRecursion}
use Rattle.std.specs.Ordering.{MatchOrdering}
use Rattle.std.specs.declared.cmp.Ordering.{Ordering}
use Rattle.std.specs.declared.cmp.Ordering.TheVariants.{Less, Equal, Greater}
use Rattle.std.proofs.lemmas.List.{length-append, append_cancel_left, append_cancel_right, take_at, append-nil}
use Rattle.octet_language.specs.Language.{AnyOf, Each, IfFirst}
use Rattle.octet_language.proofs.Lists.{heads, tails}
use Rattle.syslog_value.specs.Order.{OctetsBelow}
use Rattle.syslog_value.specs.Parts.{ElementParts}
use Rattle.syslog_value.specs.Structured.{HasId}
use Rattle.syslog_fields.specs.Grammar.{Element, StructuredDataText}
use Rattle.syslog_fields.specs.FirstElements.{SplitsElement}
use Rattle.syslog_fields.specs.Spans.{ElementSpan, SpannedElement}
use Rattle.syslog_fields.proofs.Ahead.{may_start}
use Rattle.syslog_fields.proofs.Names.{EndsName, OneAhead-name}
use Rattle.syslog_fields.proofs.ParamTexts.{SpannedParams, params_start, IsPrefixFree-element, spanned_element}
use Rattle.syslog_fields.proofs.ParamTexts.{element_prefix}
use Rattle.syslog_reading.specs.Faults.{AreDistinct}
use Rattle.syslog_reading.specs.Ids.{HoldsDistinct, HoldsRepeated, IsAtMost, Known, Skips}

-- ---- one element

spanned_prefix : (d : List ℕ) → AnyOf SpannedParams d → IfFirst EndsName d
spanned_prefix d h = may_start EndsName (AnyOf SpannedParams) params_start d h

same_name : (v w : ElementSpan) (x : List ℕ) → SpannedElement v x → SpannedElement w x → v.id ≡ w.id
same_name v w x (a, b, e, h, (c, d, f, (n, i), l)) (a', b', e', h', (c', d', f', (n', i'), l')) =
    let both : 91 ∷ b ≡ 91 ∷ b' = ap (λ (u : List ℕ). u ++ b) (sym h) ∙ sym e ∙ e' ∙ ap (λ (u : List ℕ). u ++ b') h' in
    let rests : c ++ d ≡ c' ++ d' = sym f ∙ tails 91 91 b b' both ∙ f' in
    let same : c ≡ c' = OneAhead-name c d c' d' (v.id, (n, i)) (w.id, (n', i')) (spanned_prefix d (v.params, l))
    (spanned_prefix d' (w.params, l')) rests in
    sym i ∙ same ∙ i'

element_id : (e : ElementParts) (x : List ℕ) → Element e x → (v : ElementSpan) × SpannedElement v x × (v.id ≡ e.id)
element_id p x (a, y, e, h, (z, w, g, k, (u, v, f, l, m))) =
    (record { id = p.id; params = u }, (a, y, e, h, (z, w, g, k, (u, v, f, ((p.params, l), refl), m))), refl)

-- the first element and the others, where one was read
pub record Split (e : ElementParts) (es : List ElementParts) (rest behind : List ℕ) (v : ElementSpan) : Type 0 where
  pub prefix : List ℕ
  pub parts : rest ≡ prefix ++ behind
  pub text : Element e prefix
  pub same : e.id ≡ v.id
  pub others : Each Element es behind

pub split : (e : ElementParts) (es : List ElementParts) (rest behind : List ℕ) (v : ElementSpan)
    → Each Element (e ∷ es) rest → SplitsElement rest v behind → Split e es rest behind v
split e es rest behind v (x, y, g, h, k) first =
    let (t, f, s) = first y (x, g, (e, h)) in
    let same : x ≡ t = IsPrefixFree-element x y t behind (e, h) (spanned_element t (v, s)) (sym g ∙ f) in
    let rests : y ≡ behind = append_cancel_left x y behind (sym g ∙ f ∙ ap (λ (u : List ℕ). u ++ behind) (sym same)) in
    let i = element_id e x h in
    record {
      prefix = t;
      parts = f;
      text = subst (Element e) same h;
      same = sym i.2 ∙ same_name i.0 v t (subst (SpannedElement i.0) same i.1) s;
      others = subst (Each Element es) rests k;
    }

-- ---- whether some elements have an id

pub record Left (id : List ℕ) (es : List ElementParts) (rest : List ℕ) : Type 0 where
  pub todo : List ElementParts
  pub each : Each Element todo rest
  pub to : HasId id es → HasId id todo
  pub from : HasId id todo → HasId id es

abbrev pub Seeks : List ℕ → List ℕ → List ℕ → Type 0
Seeks elements id rest = (es : List ElementParts) → Each Element es elements → Left id es rest

pub seeks_all : (elements id : List ℕ) → Seeks elements id elements
seeks_all elements id es h = record { todo = es; each = h; to = λ k. k; from = λ k. k }

found_more : (id : List ℕ) (es todo : List ElementParts) (rest behind t : List ℕ) (x : ℕ) (v : ElementSpan)
    → rest ≡ x ∷ t → Each Element todo rest → (HasId id es → HasId id todo) → (HasId id todo → HasId id es)
    → SplitsElement rest v behind → v.id ≢ id → Left id es behind
found_more id es [] rest behind t x v e h to from f ne = let i : ◌≡◌ {A = List ℕ} [] (x ∷ t) = sym h ∙ e in absurd cc
found_more id es (d ∷ ds) rest behind t x v e h to from f ne =
    let s = split d ds rest behind v h f in
    record {
      todo = ds;
      each = s.others;
      to = λ k. elim (to k) [ inl g ↦ absurd (ne (sym s.same ∙ g)) | inr g ↦ g ];
      from = λ k. from (inr k);
    }

pub seeks_more : (elements id rest behind t : List ℕ) (x : ℕ) (v : ElementSpan) → rest ≡ x ∷ t
    → SplitsElement rest v behind → v.id ≢ id → Seeks elements id rest → Seeks elements id behind
seeks_more elements id rest behind t x v e f ne seeks es h =
    let k = seeks es h in
    found_more id es k.todo rest behind t x v e k.each k.to k.from f ne

found_here : (id : List ℕ) (todo : List ElementParts) (rest behind t : List ℕ) (x : ℕ) (v : ElementSpan) → rest ≡ x ∷ t
    → Each Element todo rest → SplitsElement rest v behind → v.id ≡ id → HasId id todo
found_here id [] rest behind t x v e h f g = let i : ◌≡◌ {A = List ℕ} [] (x ∷ t) = sym h ∙ e in absurd cc
found_here id (d ∷ ds) rest behind t x v e h f g = inl ((split d ds rest behind v h f).same ∙ g)

pub seeks_found : (elements id rest behind t : List ℕ) (x : ℕ) (v : ElementSpan) → rest ≡ x ∷ t
    → SplitsElement rest v behind → v.id ≡ id → Seeks elements id rest → (es : List ElementParts)
    → Each Element es elements → IsTrue true ↔ HasId id es
seeks_found elements id rest behind t x v e f g seeks es h =
    let k = seeks es h in
    (λ u. k.from (found_here id k.todo rest behind t x v e k.each f g), λ u. refl)

none_left : (id : List ℕ) (todo : List ElementParts) → Each Element todo [] → HasId id todo → ⊥
none_left id [] h k = k
none_left id (d ∷ ds) (x, y, g, h, l) k = let f = element_prefix x (d, h) in
    let i : ◌≡◌ {A = List ℕ} [] (91 ∷ (f.0 ++ y)) = g ∙ ap (λ (u : List ℕ). u ++ y) f.1 in absurd cc

pub seeks_end : (elements id rest : List ℕ) → rest ≡ [] → Seeks elements id rest → (es : List ElementParts)
    → Each Element es elements → IsTrue false ↔ HasId id es
seeks_end elements id rest e seeks es h =
    let k = seeks es h in
    (λ u. absurd cc, λ u. absurd (none_left id k.todo (subst (Each Element k.todo) e k.each) (k.to u)))

-- ---- distinct ids

has_end : (id : List ℕ) (es : List ElementParts) (e : ElementParts) → HasId id (es ++ e ∷ [])
    → HasId id es ⊎ (e.id ≡ id)
has_end id [] e (inl h) = inr h
has_end id [] e (inr h) = absurd h
has_end id (d ∷ es) e (inl h) = inl (inl h)
has_end id (d ∷ es) e (inr h) = elim (has_end id es e h) [ inl k ↦ inl (inr k) | inr k ↦ inr k ]

pub distinct_end : (es : List ElementParts) (e : ElementParts) → AreDistinct es → ¬ (HasId e.id es)
    → AreDistinct (es ++ e ∷ [])
distinct_end [] e d none = (λ h. h, tt)
distinct_end (f ∷ es) e d none = (
  λ h. elim (has_end f.id es e h) [ inl k ↦ d.0 k | inr k ↦ none (inl (sym k)) ],
  distinct_end es e d.1 (λ h. none (inr h)),
)

pub all_end : (P : ElementParts → Type 0) (es : List ElementParts) (e : ElementParts) → AllByRecursion P es → P e
    → AllByRecursion P (es ++ e ∷ [])
all_end P [] e h p = (p, tt)
all_end P (f ∷ es) e h p = (h.0, all_end P es e h.1 p)

-- ---- from the left

pub each_end : (es : List ElementParts) (e : ElementParts) (p q : List ℕ) → Each Element es p → Element e q
    → Each Element (es ++ e ∷ []) (p ++ q)
each_end [] e p q h k = (q, [], ap (λ (u : List ℕ). u ++ q) h ∙ sym (append-nil q), k, refl)
each_end (f ∷ es) e p q (x, y, g, h, l) k =
    (x, y ++ q, ap (λ (u : List ℕ). u ++ q) g ∙ append_assoc x y q, h, each_end es e y q l k)

pub each_join : (es fs : List ElementParts) (p q : List ℕ) → Each Element es p → Each Element fs q
    → Each Element (es ++ fs) (p ++ q)
each_join [] fs p q h k = subst (λ (u : List ℕ). Each Element fs (u ++ q)) (sym h) k
each_join (f ∷ es) fs p q (x, y, g, h, l) k =
    (x, y ++ q, ap (λ (u : List ℕ). u ++ q) g ∙ append_assoc x y q, h, each_join es fs y q l k)

some_data : (es : List ElementParts) (text : List ℕ) → text ≢ [] → Each Element es text → StructuredDataText es text
some_data [] text some h = absurd (some h)
some_data (e ∷ es) text some h = h

data_some : (text : List ℕ) → AnyOf StructuredDataText text → text ≢ []
data_some text ([], h) e =
    let i : ◌≡◌ {A = List ℕ} [] (45 ∷ []) = sym e ∙ h in absurd cc
data_some text (d ∷ es, (x, y, g, h, k)) e =
    let f = element_prefix x (d, h) in
    let i : ◌≡◌ {A = List ℕ} [] (91 ∷ (f.0 ++ y)) = sym e ∙ g ∙ ap (λ (u : List ℕ). u ++ y) f.1 in absurd cc

not_bracket : (es : List ElementParts) (rest t : List ℕ) (x : ℕ) → rest ≡ x ∷ t → Each Element es rest → x ≡ 91
not_bracket [] rest t x e h =
    let i : ◌≡◌ {A = List ℕ} [] (x ∷ t) = sym h ∙ e in absurd cc
not_bracket (d ∷ es) rest t x e (y, z, g, h, k) =
    let f = element_prefix y (d, h) in heads x 91 t (f.0 ++ z) (sym e ∙ g ∙ ap (λ (u : List ℕ). u ++ z) f.1)

-- no bracket is next: NILVALUE
pub known_nil : (text rest t : List ℕ) (x : ℕ) → rest ≡ x ∷ t → x ≢ 91 → Known text rest → HoldsDistinct text
known_nil text rest t x e ne s = elim s.more [
  | inl k ↦ absurd (ne (not_bracket k.0 rest t x e k.1))
  | inr k ↦ (
    [],
    s.parts ∙ ap (λ (u : List ℕ). u ++ rest)
        (subst (λ (es : List ElementParts). Each Element es s.prefix) k.0 s.each) ∙ k.1,
    tt,
  )
]

pub known_end : (text rest : List ℕ) → AnyOf StructuredDataText text → rest ≡ [] → Known text rest → HoldsDistinct text
known_end text rest d e s = (
  s.before,
  some_data s.before text (data_some text d)
      (subst (Each Element s.before) (sym (s.parts ∙ ap (λ (u : List ℕ). s.prefix ++ u) e ∙ append-nil s.prefix))
      s.each),
  s.distinct,
)

-- the element that was read, and the others
pub record Next (rest behind : List ℕ) (v : ElementSpan) : Type 0 where
  pub element : ElementParts
  pub others : List ElementParts
  pub whole : Each Element (element ∷ others) rest
  pub split : Split element others rest behind v

next_of : (es : List ElementParts) (rest behind t : List ℕ) (x : ℕ) (v : ElementSpan) → rest ≡ x ∷ t
    → Each Element es rest → SplitsElement rest v behind → Next rest behind v
next_of [] rest behind t x v e h f =
    let i : ◌≡◌ {A = List ℕ} [] (x ∷ t) = sym h ∙ e in absurd cc
next_of (d ∷ es) rest behind t x v e h f =
    record { element = d; others = es; whole = h; split = split d es rest behind v h f }

pub next : (text rest behind t : List ℕ) (x : ℕ) (v : ElementSpan) → rest ≡ x ∷ t → x ≡ 91 → SplitsElement rest v behind
    → Known text rest → Next rest behind v
next text rest behind t x v e g f s = elim s.more [
  | inl k ↦ next_of k.0 rest behind t x v e k.1 f
  | inr k ↦
      let i : x ≡ 45 = heads x 45 t [] (sym e ∙ k.1) in absurd (omega (arith, i, g))
]

pub prefix_is : (text prefix rest : List ℕ) → text ≡ prefix ++ rest → take (length text - length rest) text ≡ prefix
prefix_is text prefix rest e =
    let n : length text - length rest ≡ length prefix = omega (arith, ap length e, length-append prefix rest) in
    rw (n, e) (take_at prefix rest (length prefix) refl)

abbrev pub keep : (text rest behind : List ℕ) (v : ElementSpan) (s : Known text rest) → Next rest behind v
    → ¬ (HasId v.id s.before) → Known text behind
keep text rest behind v s n none = record {
  prefix = s.prefix ++ n.split.prefix;
  before = s.before ++ n.element ∷ [];
  parts = s.parts ∙ ap (λ (u : List ℕ). s.prefix ++ u) n.split.parts
      ∙ sym (append_assoc s.prefix n.split.prefix behind);
  each = each_end s.before n.element s.prefix n.split.prefix s.each n.split.text;
  distinct = distinct_end s.before n.element s.distinct
      (λ h. none (subst (λ (id : List ℕ). HasId id s.before) n.split.same h));
  more = inl (n.others, n.split.others);
}

-- an id that is not among those before
pub known_new : (text rest behind t : List ℕ) (x : ℕ) (v : ElementSpan) (found : Bool) → rest ≡ x ∷ t → x ≡ 91
    → SplitsElement rest v behind
    → ((es : List ElementParts) → Each Element es (take (length text - length rest) text)
    → IsTrue found ↔ HasId v.id es) → found ≡ false → Known text rest → Known text behind
known_new text rest behind t x v found e g f finds isn s =
    keep text rest behind v s (next text rest behind t x v e g f s)
    (λ h. apart ((finds s.before (subst (Each Element s.before) (sym (prefix_is text s.prefix rest s.parts))
    s.each)).1 h))
  where
    apart : found ≡ true → ⊥
    apart y =
        let i : false ≡ true = sym isn ∙ y in absurd cc

-- an id that is among those before
pub known_repeated : (text rest behind t : List ℕ) (x : ℕ) (v : ElementSpan) (found : Bool) (at : ℕ)
    → AnyOf StructuredDataText text → rest ≡ x ∷ t → x ≡ 91 → SplitsElement rest v behind
    → ((es : List ElementParts) → Each Element es (take (length text - length rest) text)
    → IsTrue found ↔ HasId v.id es) → found ≡ true → at ≡ length (take (length text - length rest) text) + 1
    → Known text rest → HoldsRepeated text at
known_repeated text rest behind t x v found at d e g f finds is offset s =
    let n = next text rest behind t x v e g f s in
    let prefix = prefix_is text s.prefix rest s.parts in
    let has : HasId v.id s.before = (finds s.before (subst (Each Element s.before) (sym prefix) s.each)).0 is in
    let all = s.before ++ n.element ∷ n.others in (
      all,
      some_data all text (data_some text d) (subst (Each Element all) (sym s.parts)
          (each_join s.before (n.element ∷ n.others) s.prefix rest s.each n.whole)),
      s.before,
      record {
        element = n.element;
        behind = n.others;
        parts = refl;
        distinct = s.distinct;
        same =
            subst (λ (id : List ℕ). HasId id s.before) (sym n.split.same) has;
      },
      (
        s.prefix ++ 91 ∷ [],
        t,
        s.parts ∙ ap (λ (u : List ℕ). s.prefix ++ u) (e ∙ ap (λ (k : ℕ). k ∷ t) g)
            ∙ sym (append_assoc s.prefix (91 ∷ []) t),
        (s.prefix, 91 ∷ [], refl, s.each, refl),
        omega (arith, offset, ap length prefix, length-append s.prefix (91 ∷ [])),
      ),
    )

-- ---- so many elements further

pub skips_none : (elements : List ℕ) → Skips elements elements
skips_none elements = record { prefix = []; parts = refl; both = λ es h. ([], es, refl, h) }

pub skips_more : (elements rest behind t : List ℕ) (x : ℕ) (v : ElementSpan) → rest ≡ x ∷ t
    → SplitsElement rest v behind → (prefix : List ℕ) × (rest ≡ prefix ++ behind) → Skips elements rest
    → Skips elements behind
skips_more elements rest behind t x v e f (text, parts) s = record {
  prefix = s.prefix ++ text;
  parts = s.parts ∙ ap (λ (u : List ℕ). s.prefix ++ u) parts ∙ sym (append_assoc s.prefix text behind);
  both = λ es h. let k = s.both es h in one k.0 k.1 k.2 k.3;
}
  where
    one : (us bs : List ElementParts) → Each Element us s.prefix → Each Element bs rest
        → (cs : List ElementParts) × (ds : List ElementParts) × Each Element cs (s.prefix ++ text)
        × Each Element ds behind
    one us [] h k =
        let i : ◌≡◌ {A = List ℕ} [] (x ∷ t) = sym k ∙ e in absurd cc
    one us (d ∷ bs) h k =
        let p = split d bs rest behind v k f in
        let same : p.prefix ≡ text = append_cancel_right p.prefix text behind (sym p.parts ∙ parts) in
        (us ++ d ∷ [], bs, each_end us d s.prefix text h (subst (Element d) same p.text), p.others)

-- ---- above the greatest

pub above_when : (greatest id : List ℕ) (o : Ordering)
    → MatchOrdering o (OctetsBelow greatest id) (greatest ≡ id) (OctetsBelow id greatest) → o ≡ Less
    → OctetsBelow greatest id
above_when greatest id Less h e = h
above_when greatest id Equal h e = absurd cc
above_when greatest id Greater h e = absurd cc

pub most_when : (greatest id : List ℕ) (o : Ordering)
    → MatchOrdering o (OctetsBelow greatest id) (greatest ≡ id) (OctetsBelow id greatest) → o ≢ Less
    → IsAtMost id (Some greatest)
most_when greatest id Less h e = absurd (e refl)
most_when greatest id Equal h e = inl (sym h)
most_when greatest id Greater h e = inr h
