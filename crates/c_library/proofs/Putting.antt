-- The spans of parameters and of elements that were put into a room, and those that are to come.
use Rattle.std.proofs.Common.{◌≡◌, ℕ, ◌+◌, ◌*◌, ◌≤◌, List, [], ◌∷◌, ◌++◌, length, refl, sym, ap, subst, ◌∙◌}
use Rattle.std.proofs.Common.{append_assoc, arith}
use Rattle.std.proofs.lemmas.List.{append-nil, length-append}
use Rattle.octet_language.specs.Language.{Language, AnyOf, Each}
use Rattle.octet_language.specs.Reading.{Follows}
use Rattle.syslog_value.specs.Parts.{ElementParts, ParamParts}
use Rattle.syslog_fields.specs.FirstElements.{SplitsParam}
use Rattle.syslog_fields.specs.Grammar.{Element, Param}
use Rattle.syslog_fields.specs.Spans.{ElementSpan, ParamSpan, SpannedElement, SpannedParam}
use Rattle.syslog_fields.specs.Values.{Spells as SpellsValue}
use Rattle.syslog_fields.proofs.ParamTexts.{IsPrefixFree-element, IsPrefixFree-param, element_some, param_some}
use Rattle.syslog_fields.proofs.ParamTexts.{spanned_element, spanned_param}
use Rattle.syslog_reading.proofs.OwnedParts.{element_same, param_same}
use Rattle.c_library.specs.PartSpans.{ShowsElements, ShowsParams, part_span, placed}
use Rattle.c_library.specs.declared.part.SyslogboxPartSpan.{SyslogboxPartSpan}
use Rattle.c_library.proofs.Placing.{placed_more}
use Rattle.c_library.proofs.Splitting.{element_length, element_parts, param_parts}
use Rattle.c_library.proofs.Walking.{next_item, nothing}

-- ---- what is left

pub nothing_left : {V : Type 0} (A : V → Language) → ¬ (AnyOf A []) → (items : List V) (rest : List ℕ) → rest ≡ []
    → Each A items rest → items ≡ []
nothing_left {V} A some [] rest e h = refl
nothing_left {V} A some (q ∷ items) rest e (a, b, i, j, k) = absurd (no_item a b q (sym i ∙ e) j)
  where
    no_item : (a b : List ℕ) (q : V) → a ++ b ≡ [] → A q a → ⊥
    no_item [] b q e k = some (q, k)
    no_item (y ∷ a) b q e k = absurd cc

-- an item comes first in what is left
pub item_first : {V : Type 0} (A : V → Language) (items : List V) (rest after : List ℕ) (x : ℕ) → rest ≡ x ∷ after
    → Each A items rest → (behind : List ℕ) × Follows (AnyOf A) rest behind
item_first A [] rest after x e h = absurd (nothing x rest after e h)
item_first A (q ∷ items) rest after x e (a, b, i, j, k) = (b, (a, i, (q, j)))

-- ---- parameters

pub Pair : ℕ → List ℕ → List ℕ → List SyslogboxPartSpan
Pair here name raw = part_span 9 (here + 1) (length name) ∷ part_span 10 (here + length name + 3) (length raw) ∷ []

-- some spans were put, and with those of the parameters that are left they are those of all
pub record PutParams (at : ℕ) (text : List ℕ) (here : ℕ) (rest : List ℕ) (done : List SyslogboxPartSpan) : Type 0 where
  pub few : length done + 2 * length rest ≤ 2 * length text
  pub here_is : here + length rest ≡ at + length text
  pub some : AnyOf (Each Param) rest
  pub all : (ps : List ParamParts) → Each Param ps text → (todo : List ParamParts) × Each Param todo rest
      × ((cs : List SyslogboxPartSpan) → ShowsParams here todo rest cs → ShowsParams at ps text (done ++ cs))

pub params_none : (at : ℕ) (text : List ℕ) → AnyOf (Each Param) text → PutParams at text at text []
params_none at text h = record {
  few = omega arith;
  here_is = refl;
  some = h;
  all = λ ps each. (ps, each, λ cs sh. sh);
}

pub param_first : (at here : ℕ) (text rest behind after : List ℕ) (x : ℕ) (v : ParamSpan) (done : List SyslogboxPartSpan)
    → rest ≡ x ∷ after → SplitsParam rest v behind → PutParams at text here rest done
    → Follows (SpannedParam v) rest behind
param_first at here text rest behind after x v done e splits put =
    let f = item_first Param put.some.0 rest after x e put.some.1 in splits f.0 f.1

pub param_length : (v : ParamSpan) (rest behind : List ℕ) → Follows (SpannedParam v) rest behind
    → length rest ≡ length v.name + length v.raw + 4 + length behind
param_length v rest behind f =
    omega (
      arith,
      ap length (param_parts v rest behind f),
      length-append v.name (61 ∷ 34 ∷ (v.raw ++ 34 ∷ behind)),
      length-append v.raw (34 ∷ behind),
    )

params_cons : (here : ℕ) (q : ParamParts) (todo : List ParamParts) (text name raw behind : List ℕ)
    (cs : List SyslogboxPartSpan) → q.name ≡ name → SpellsValue q.value raw
    → text ≡ 32 ∷ (name ++ (61 ∷ 34 ∷ (raw ++ 34 ∷ behind)))
    → ShowsParams (here + (length name + length raw + 4)) todo behind cs
    → ShowsParams here (q ∷ todo) text (Pair here name raw ++ cs)
unfolding Pair
params_cons here q todo text name raw behind cs e sp f sh =
    subst (λ (n : List ℕ). (text ≡ 32 ∷ (n ++ (61 ∷ 34 ∷ (raw ++ 34 ∷ behind))))
    → ShowsParams (here + (length n + length raw + 4)) todo behind cs
    → ShowsParams here (q ∷ todo) text (Pair here n raw ++ cs)) e
    (λ f sh. (raw, behind, cs, sp, f, refl, sh)) f sh

pub params_more : (at here : ℕ) (text rest behind after : List ℕ) (x : ℕ) (v : ParamSpan) (done : List SyslogboxPartSpan)
    → rest ≡ x ∷ after → SplitsParam rest v behind → PutParams at text here rest done
    → PutParams at text (here + (length v.name + length v.raw + 4)) behind (done ++ Pair here v.name v.raw)
unfolding Pair
params_more at here text rest behind after x v done e splits put =
    let first = param_first at here text rest behind after x v done e splits put in
    let len = param_length v rest behind first in
    record {
      few = omega (arith, len, put.few, length-append done (Pair here v.name v.raw));
      here_is = omega (arith, len, put.here_is);
      some = left put.some.0 put.some.1 first;
      all = λ ps each. let old = put.all ps each in step ps old.0 old.1 old.2 first;
    }
  where
    left : (todo : List ParamParts) → Each Param todo rest → Follows (SpannedParam v) rest behind
        → AnyOf (Each Param) behind
    left [] k first = absurd (nothing x rest after e k)
    left (q ∷ todo) k first =
        (todo, (next_item Param SpannedParam IsPrefixFree-param spanned_param q todo v rest behind k first).3)

    step : (ps todo : List ParamParts) → Each Param todo rest
        → ((cs : List SyslogboxPartSpan) → ShowsParams here todo rest cs → ShowsParams at ps text (done ++ cs))
        → Follows (SpannedParam v) rest behind
        → (todo : List ParamParts) × Each Param todo behind
        × ((cs : List SyslogboxPartSpan) → ShowsParams (here + (length v.name + length v.raw + 4)) todo behind cs
        → ShowsParams at ps text ((done ++ Pair here v.name v.raw) ++ cs))
    step ps [] k old first = absurd (nothing x rest after e k)
    step ps (q ∷ todo) k old first =
        let item = next_item Param SpannedParam IsPrefixFree-param spanned_param q todo v rest behind k first in
        let s = param_same q v item.0 item.1 item.2 in (
          todo,
          item.3,
          λ cs sh. subst (ShowsParams at ps text) (sym (append_assoc done (Pair here v.name v.raw) cs))
              (old (Pair here v.name v.raw ++ cs)
              (params_cons here q todo rest v.name v.raw behind cs s.0 s.1 (param_parts v rest behind first) sh)),
        )

-- the pair of a parameter stands behind the spans that were put
pub pair_put : (index count here : ℕ) (done room0 room new : List SyslogboxPartSpan) (one two : SyslogboxPartSpan)
    (name raw shown_name shown_raw : List ℕ) → one ≡ part_span 9 (here + 1) (length shown_name)
    → two ≡ part_span 10 (here + length shown_name + 3) (length shown_raw) → shown_name ≡ name → shown_raw ≡ raw
    → room ≡ placed index done room0 → count ≡ index + length done → new ≡ placed count (one ∷ two ∷ []) room
    → new ≡ placed index (done ++ Pair here name raw) room0
unfolding Pair
pair_put index count here done room0 room new one two name raw shown_name shown_raw e f g h i j k =
    k
    ∙ ap (λ (u : List SyslogboxPartSpan). placed count u room)
    (ap (λ (u : SyslogboxPartSpan). u ∷ two ∷ [])
    (e ∙ ap (λ (u : List ℕ). part_span 9 (here + 1) (length u)) g)
    ∙ ap (λ (u : SyslogboxPartSpan). part_span 9 (here + 1) (length name) ∷ u ∷ [])
    (f ∙ ap (λ (u : List ℕ). part_span 10 (here + length u + 3) (length shown_raw)) g
    ∙ ap (λ (u : List ℕ). part_span 10 (here + length name + 3) (length u)) h))
    ∙ ap (λ (u : List SyslogboxPartSpan). placed count (Pair here name raw) u) i
    ∙ placed_more index count done (Pair here name raw) room0 j

pub pair_count : (index count here : ℕ) (done : List SyslogboxPartSpan) (name raw : List ℕ)
    → count ≡ index + length done → count + 2 ≡ index + length (done ++ Pair here name raw)
unfolding Pair
pair_count index count here done name raw e = omega (arith, e, length-append done (Pair here name raw))

pub params_all : (at here : ℕ) (text rest : List ℕ) (done : List SyslogboxPartSpan) → rest ≡ []
    → PutParams at text here rest done → (ps : List ParamParts) → Each Param ps text → ShowsParams at ps text done
params_all at here text rest done e put ps each =
    let old = put.all ps each in
    subst (ShowsParams at ps text) (append-nil done)
    (old.2 [] (last old.0 (nothing_left Param param_some old.0 rest e old.1)))
  where
    last : (todo : List ParamParts) → todo ≡ [] → ShowsParams here todo rest []
    last [] f = (e, refl)
    last (q ∷ todo) f = absurd cc

-- ---- elements

-- some spans were put, and with those of the elements that are left they are those of all
pub record PutElements (at : ℕ) (text : List ℕ) (here : ℕ) (rest : List ℕ) (done : List SyslogboxPartSpan) : Type 0 where
  pub few : length done + 2 * length rest ≤ 2 * length text
  pub here_is : here + length rest ≡ at + length text
  pub some : AnyOf (Each Element) rest
  pub all : (es : List ElementParts) → Each Element es text → (todo : List ElementParts) × Each Element todo rest
      × ((cs : List SyslogboxPartSpan) → ShowsElements here todo rest cs → ShowsElements at es text (done ++ cs))

pub elements_none : (at : ℕ) (text : List ℕ) → AnyOf (Each Element) text → PutElements at text at text []
elements_none at text h = record {
  few = omega arith;
  here_is = refl;
  some = h;
  all = λ es each. (es, each, λ cs sh. sh);
}

pub next_first : (at here : ℕ) (text rest after : List ℕ) (x : ℕ) (done : List SyslogboxPartSpan)
    → rest ≡ x ∷ after → PutElements at text here rest done
    → (behind : List ℕ) × Follows (AnyOf Element) rest behind
next_first at here text rest after x done e put = item_first Element put.some.0 rest after x e put.some.1

pub element_len : (v : ElementSpan) (rest behind : List ℕ) → Follows (SpannedElement v) rest behind
    → length rest ≡ length v.id + length v.params + 2 + length behind
element_len v rest behind f = omega (arith, element_length v.id v.params behind rest (element_parts v rest behind f))

pub inner_params : (at here : ℕ) (text rest behind after : List ℕ) (x : ℕ) (v : ElementSpan)
    (done : List SyslogboxPartSpan) → rest ≡ x ∷ after → Follows (SpannedElement v) rest behind
    → PutElements at text here rest done → AnyOf (Each Param) v.params
inner_params at here text rest behind after x v done e first put = go put.some.0 put.some.1
  where
    go : (todo : List ElementParts) → Each Element todo rest → AnyOf (Each Param) v.params
    go [] k = absurd (nothing x rest after e k)
    go (q ∷ todo) k =
        let item = next_item Element SpannedElement IsPrefixFree-element spanned_element q todo v rest behind k first in
        (q.params, (element_same q v item.0 item.1 item.2).1)

elements_cons : (here : ℕ) (q : ElementParts) (todo : List ElementParts) (text id params behind : List ℕ)
    (inner cs : List SyslogboxPartSpan) → q.id ≡ id
    → text ≡ 91 ∷ (id ++ (params ++ 93 ∷ behind))
    → ShowsParams (here + length id + 1) q.params params inner
    → ShowsElements (here + (length id + length params + 2)) todo behind cs
    → ShowsElements here (q ∷ todo) text ((part_span 8 (here + 1) (length id) ∷ inner) ++ cs)
elements_cons here q todo text id params behind inner cs e f ps sh =
    subst (λ (n : List ℕ). (text ≡ 91 ∷ (n ++ (params ++ 93 ∷ behind)))
    → ShowsParams (here + length n + 1) q.params params inner
    → ShowsElements (here + (length n + length params + 2)) todo behind cs
    → ShowsElements here (q ∷ todo) text ((part_span 8 (here + 1) (length n) ∷ inner) ++ cs)) e
    (λ f ps sh. (params, behind, inner, cs, f, refl, ps, sh)) f ps sh

pub elements_more : (at here : ℕ) (text rest behind after : List ℕ) (x : ℕ) (v : ElementSpan)
    (done inner : List SyslogboxPartSpan) → rest ≡ x ∷ after → Follows (SpannedElement v) rest behind
    → length inner ≤ 2 * length v.params
    → ((ps : List ParamParts) → Each Param ps v.params → ShowsParams (here + length v.id + 1) ps v.params inner)
    → PutElements at text here rest done
    → PutElements at text (here + (length v.id + length v.params + 2)) behind
    (done ++ part_span 8 (here + 1) (length v.id) ∷ inner)
elements_more at here text rest behind after x v done inner e first few shows put =
    let len = element_len v rest behind first in
    record {
      few = omega (arith, len, few, put.few, length-append done (part_span 8 (here + 1) (length v.id) ∷ inner));
      here_is = omega (arith, len, put.here_is);
      some = left put.some.0 put.some.1;
      all = λ es each. let old = put.all es each in step es old.0 old.1 old.2;
    }
  where
    left : (todo : List ElementParts) → Each Element todo rest → AnyOf (Each Element) behind
    left [] k = absurd (nothing x rest after e k)
    left (q ∷ todo) k =
        (todo, (next_item Element SpannedElement IsPrefixFree-element spanned_element q todo v rest behind k first).3)

    step : (es todo : List ElementParts) → Each Element todo rest
        → ((cs : List SyslogboxPartSpan) → ShowsElements here todo rest cs → ShowsElements at es text (done ++ cs))
        → (todo : List ElementParts) × Each Element todo behind
        × ((cs : List SyslogboxPartSpan) → ShowsElements (here + (length v.id + length v.params + 2)) todo behind cs
        → ShowsElements at es text ((done ++ part_span 8 (here + 1) (length v.id) ∷ inner) ++ cs))
    step es [] k old = absurd (nothing x rest after e k)
    step es (q ∷ todo) k old =
        let item = next_item Element SpannedElement IsPrefixFree-element spanned_element q todo v rest behind k first in
        let s = element_same q v item.0 item.1 item.2 in (
          todo,
          item.3,
          λ cs sh. subst (ShowsElements at es text)
              (sym (append_assoc done (part_span 8 (here + 1) (length v.id) ∷ inner) cs))
              (old ((part_span 8 (here + 1) (length v.id) ∷ inner) ++ cs)
              (elements_cons here q todo rest v.id v.params behind inner cs s.0 (element_parts v rest behind first)
              (shows q.params s.1) sh)),
        )

-- the id of an element and the spans of its parameters stand behind the spans that were put
pub element_put : (index count here : ℕ) (done inner room0 room between new : List SyslogboxPartSpan)
    (one : SyslogboxPartSpan) (id : List ℕ) → one ≡ part_span 8 (here + 1) (length id)
    → room ≡ placed index done room0 → count ≡ index + length done → between ≡ placed count (one ∷ []) room
    → new ≡ placed (count + 1) inner between
    → new ≡ placed index (done ++ part_span 8 (here + 1) (length id) ∷ inner) room0
element_put index count here done inner room0 room between new one id e i j k l =
    let named : SyslogboxPartSpan = part_span 8 (here + 1) (length id) in
    l
    ∙ ap (λ (u : List SyslogboxPartSpan). placed (count + 1) inner u)
    (k ∙ ap (λ (u : SyslogboxPartSpan). placed count (u ∷ []) room) e)
    ∙ placed_more count (count + 1) (named ∷ []) inner room (omega arith)
    ∙ ap (λ (u : List SyslogboxPartSpan). placed count (named ∷ inner) u) i
    ∙ placed_more index count done (named ∷ inner) room0 j

pub element_count : (index count later : ℕ) (done inner : List SyslogboxPartSpan) (one : SyslogboxPartSpan)
    → count ≡ index + length done → later ≡ count + 1 + length inner → later ≡ index + length (done ++ one ∷ inner)
element_count index count later done inner one e f = omega (arith, e, f, length-append done (one ∷ inner))

pub elements_all : (at here : ℕ) (text rest : List ℕ) (done : List SyslogboxPartSpan) → rest ≡ []
    → PutElements at text here rest done → (es : List ElementParts) → Each Element es text
    → ShowsElements at es text done
elements_all at here text rest done e put es each =
    let old = put.all es each in
    subst (ShowsElements at es text) (append-nil done)
    (old.2 [] (last old.0 (nothing_left Element element_some old.0 rest e old.1)))
  where
    last : (todo : List ElementParts) → todo ≡ [] → ShowsElements here todo rest []
    last [] f = refl
    last (q ∷ todo) f = absurd cc
