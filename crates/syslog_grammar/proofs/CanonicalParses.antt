-- The canonical text of a record spells it.
use Rattle.std.proofs.Common.{◌≡◌, ℕ, ◌≤◌, List, [], ◌∷◌, ◌++◌, refl, sym, ap, subst, ◌∙◌, append_assoc, arith}
use Rattle.std.proofs.Common.{inl, inr}
use Rattle.std.specs.Prelude.{◌↔◌, if◌then◌else◌, ℤ, pos, Option, Some, None, IfSome, option_map, decimal, IsUtf8}
use Rattle.std.specs.List.{AllByRecursion, flat_map}
use Rattle.std.proofs.lemmas.Grind.{flat_map-append}
use Rattle.std.proofs.lemmas.List.Sorted.{IsPermutation-refl}
use Rattle.octet_language.specs.Language.{Language, Only, ◌⋅◌, Each}
use Rattle.syslog_value.specs.Instants.{IsCivil}
use Rattle.syslog_value.specs.Parts.{ParamParts, ElementParts, MessageParts, AnyOctets, Utf8Text, Parts, IsWord}
use Rattle.syslog_value.specs.Parts.{IsParam, IsElement, IsMessage, IsInstant, IsRecord, bom}
use Rattle.syslog_value.specs.declared.civil.Civil.{Civil}
use Rattle.syslog_fields.specs.Canonical.{civil_text, TimeForm, priority_version_form, needs_escape, escaped}
use Rattle.syslog_fields.specs.Canonical.{param_form, element_form, structured_data_form, message_form, SpacedWord}
use Rattle.syslog_fields.specs.Canonical.{HeaderForm, Canonical}
use Rattle.syslog_fields.specs.Grammar.{Header, Spaced, Nilable, Word, Param, Element, StructuredDataText, MessagePart}
use Rattle.syslog_fields.specs.Grammar.{SyslogMsg}
use Rattle.syslog_fields.specs.Time.{CivilTime, TimeText, Decimals, instant, padded}
use Rattle.syslog_fields.specs.Utf8.{Character, IsCharacter}
use Rattle.syslog_fields.specs.Values.{IsSpecial, Piece, Spells}
use Rattle.syslog_fields.proofs.Unescaped.{plain_bare, special_test}
use Rattle.syslog_fields.proofs.Utf8Text.{IsText-utf8}
use Rattle.syslog_fields.proofs.Values.{plain_or}
use Rattle.syslog_fields.proofs.EscapedRuns.{bare}
use Rattle.syslog_reading.specs.Faults.{IsInRange}
use Rattle.syslog_reading.specs.WellFormed.{HasRecordParts, WellFormed}
use Rattle.syslog_reading.proofs.ById.{distinct_by_id}
use Rattle.syslog_reading.proofs.Laws.{one_meaning}
use Rattle.syslog_fields.proofs.CanonicalTexts.{time_once, word_once}
use Rattle.octet_language.proofs.Sequence.{once, only_once}

-- ---- the header

abbrev pub at_utc : Civil → CivilTime
at_utc c = record { civil = c; offset = pos 0 }

six : (m : ℕ) → m ≤ 999_999 → Decimals m (padded 6 m)
six m h = (
  omega arith,
  omega arith,
  (
    (omega arith, omega arith),
    (
      (omega arith, omega arith),
      (
        (omega arith, omega arith),
        (
          (omega arith, omega arith),
          ((omega arith, omega arith), ((omega arith, omega arith), tt)),
        ),
      ),
    ),
  ),
  omega arith,
)

pub civil_parsed : (c : Civil) → IsCivil c → TimeText (at_utc c) (civil_text c)
unfolding civil_text
civil_parsed c ((y, m0, m1, d0, d1), (h, i, s, u)) = (
  padded 4 c.year ++ (45 ∷ (padded 2 c.month ++ (45 ∷ padded 2 c.day))),
  84 ∷ (padded 2 c.hour ++ (58 ∷ (padded 2 c.minute
      ++ (58 ∷ (padded 2 c.second ++ (46 ∷ (padded 6 c.micros ++ 90 ∷ []))))))),
  refl,
  (
    padded 4 c.year,
    45 ∷ (padded 2 c.month ++ (45 ∷ padded 2 c.day)),
    refl,
    (y, refl),
    (
      45 ∷ [],
      padded 2 c.month ++ (45 ∷ padded 2 c.day),
      refl,
      refl,
      (
        padded 2 c.month,
        45 ∷ padded 2 c.day,
        refl,
        (m0, m1, refl),
        (45 ∷ [], padded 2 c.day, refl, refl, (d0, d1, refl)),
      ),
    ),
  ),
  (
    84 ∷ [],
    padded 2 c.hour ++ (58 ∷ (padded 2 c.minute
        ++ (58 ∷ (padded 2 c.second ++ (46 ∷ (padded 6 c.micros ++ 90 ∷ [])))))),
    refl,
    refl,
    (
      padded 2 c.hour ++ (58 ∷ (padded 2 c.minute ++ (58 ∷ padded 2 c.second))),
      46 ∷ (padded 6 c.micros ++ 90 ∷ []),
      refl,
      (
        padded 2 c.hour,
        58 ∷ (padded 2 c.minute ++ (58 ∷ padded 2 c.second)),
        refl,
        (omega arith, h, refl),
        (
          58 ∷ [],
          padded 2 c.minute ++ (58 ∷ padded 2 c.second),
          refl,
          refl,
          (
            padded 2 c.minute,
            58 ∷ padded 2 c.second,
            refl,
            (omega arith, i, refl),
            (58 ∷ [], padded 2 c.second, refl, refl, (omega arith, s, refl)),
          ),
        ),
      ),
      (
        46 ∷ padded 6 c.micros,
        90 ∷ [],
        refl,
        inr (46 ∷ [], padded 6 c.micros, refl, refl, six c.micros u),
        inl (refl, refl),
      ),
    ),
  ),
)

-- the time that a canonical text names
pub record Named (i : Option ℤ) (b : List ℕ) : Type 0 where
  pub time : Option CivilTime
  pub text : Nilable TimeText time b
  pub same : i ≡ option_map instant time

pub named : (i : Option ℤ) (b : List ℕ) → TimeForm i b → Named i b
named None b h = record { time = None; text = h; same = refl }
named (Some i) b (c, exists, e, f) = record {
  time = Some (at_utc c);
  text =
      subst (TimeText (at_utc c)) (sym f) (civil_parsed c exists);
  same = ap Some (sym e);
}

word_parsed : (n : ℕ) (w : Option (List ℕ)) (b : List ℕ) → IfSome w (IsWord n) → SpacedWord w b
    → Spaced (Nilable (Word n) w) b
word_parsed n None b h s = s
word_parsed n (Some w) b h (x, y, e, f, g) = (x, y, e, (h, f), g)

pub header_parsed : (r : Parts ℤ) (t : Option CivilTime) (time rest b : List ℕ) → HasRecordParts r
    → Nilable TimeText t time → b ≡ priority_version_form r.priority ++ ((time ++ 32 ∷ []) ++ rest)
    → (SpacedWord r.hostname ⋅ SpacedWord r.app_name ⋅ SpacedWord r.proc_id ⋅ SpacedWord r.msg_id) rest
    → Header (record {
      priority = r.priority;
      time = t;
      hostname = r.hostname;
      app_name = r.app_name;
      proc_id =
          r.proc_id;
      msg_id = r.msg_id;
    }) b
unfolding Header
header_parsed r t time rest b k text e (x3, y3, e3, h3, (x4, y4, e4, h4, (x5, y5, e5, h5, h6))) = (
  60 ∷ (decimal r.priority ++ 62 ∷ []),
  49 ∷ 32 ∷ ((time ++ 32 ∷ []) ++ rest),
  e ∙ ap (λ (s : List ℕ). 60 ∷ s) (append_assoc (decimal r.priority) (62 ∷ 49 ∷ 32 ∷ []) ((time ++ 32 ∷ []) ++ rest)
      ∙ sym (append_assoc (decimal r.priority) (62 ∷ []) (49 ∷ 32 ∷ ((time ++ 32 ∷ []) ++ rest)))),
  (60 ∷ [], decimal r.priority ++ 62 ∷ [], refl, refl, (decimal r.priority, 62 ∷ [], refl, (k.priority, refl), refl)),
  (
    49 ∷ 32 ∷ [],
    (time ++ 32 ∷ []) ++ rest,
    refl,
    (49 ∷ [], 32 ∷ [], refl, refl, refl),
    (
      time ++ 32 ∷ [],
      rest,
      refl,
      (time, 32 ∷ [], refl, text, refl),
      (
        x3,
        y3,
        e3,
        word_parsed 255 r.hostname x3 k.hostname h3,
        (
          x4,
          y4,
          e4,
          word_parsed 48 r.app_name x4 k.app_name h4,
          (x5, y5, e5, word_parsed 128 r.proc_id x5 k.proc_id h5, word_parsed 32 r.msg_id y5 k.msg_id h6),
        ),
      ),
    ),
  ),
)

-- ---- values

pub special : (x : ℕ) → IsSpecial x → escaped (x ∷ []) ≡ 92 ∷ x ∷ []
special x h = rw (special_test x h) refl

piece : (c : List ℕ) → IsCharacter c → Piece c (escaped c)
piece c h = elim (plain_or c h) [
  | inl k ↦ inl (k.0, k.2, k.1, ap escaped k.1 ∙ special k.0 k.2)
  | inr k ↦ inr (inr (k, bare c (plain_bare c k)))
]

pieces : (cs : List (List ℕ)) (s : List ℕ) → Each Character cs s
    → Each Piece cs (escaped s) × (s ≡ flat_map (λ m. m) cs)
pieces [] s h = (rw h refl, h)
pieces (c ∷ cs) s (x, y, e, (h, f), k) =
    let deeper = pieces cs y k in (
      (
        escaped c,
        escaped y,
        ap escaped (e ∙ ap (λ (t : List ℕ). t ++ y) f)
            ∙ flat_map-append (λ n. if needs_escape n then 92 ∷ n ∷ [] else n ∷ []) c y,
        piece c h,
        deeper.0,
      ),
      e ∙ ap (λ (t : List ℕ). t ++ y) f ∙ ap (λ (t : List ℕ). c ++ t) deeper.1,
    )

value_parsed : (value : List ℕ) → IsUtf8 value → Spells value (escaped value)
value_parsed value h = let t = IsText-utf8 value h in let p = pieces t.0 value t.1 in (t.0, p.1, p.0)

-- ---- elements

pub param_parsed : (p : ParamParts) → IsParam p → Param p (param_form p)
param_parsed p h = (
  32 ∷ [],
  p.name ++ (61 ∷ 34 ∷ (escaped p.value ++ 34 ∷ [])),
  ap (λ (s : List ℕ). 32 ∷ s) (append_assoc p.name (61 ∷ 34 ∷ escaped p.value) (34 ∷ [])),
  refl,
  (
    p.name,
    61 ∷ 34 ∷ (escaped p.value ++ 34 ∷ []),
    refl,
    (h.0, refl),
    (
      61 ∷ 34 ∷ [],
      escaped p.value ++ 34 ∷ [],
      refl,
      refl,
      (escaped p.value, 34 ∷ [], refl, value_parsed p.value h.1, refl),
    ),
  ),
)

params_parsed : (ps : List ParamParts) → AllByRecursion IsParam ps → Each Param ps (flat_map param_form ps)
params_parsed [] h = refl
params_parsed (p ∷ ps) h = (param_form p, flat_map param_form ps, refl, param_parsed p h.0, params_parsed ps h.1)

pub element_parsed : (e : ElementParts) → IsElement e → Element e (element_form e)
element_parsed e h = (
  91 ∷ [],
  e.id ++ (flat_map param_form e.params ++ 93 ∷ []),
  ap (λ (s : List ℕ). 91 ∷ s) (append_assoc e.id (flat_map param_form e.params) (93 ∷ [])),
  refl,
  (
    e.id,
    flat_map param_form e.params ++ 93 ∷ [],
    refl,
    (h.0, refl),
    (flat_map param_form e.params, 93 ∷ [], refl, params_parsed e.params h.1, refl),
  ),
)

elements_parsed : (es : List ElementParts) → AllByRecursion IsElement es → Each Element es (flat_map element_form es)
elements_parsed [] h = refl
elements_parsed (e ∷ es) h = (
  element_form e,
  flat_map element_form es,
  refl,
  element_parsed e h.0,
  elements_parsed es h.1,
)

pub data_parsed : (es : List ElementParts) → AllByRecursion IsElement es
    → StructuredDataText es (structured_data_form es)
data_parsed [] h = refl
data_parsed (e ∷ es) h = elements_parsed (e ∷ es) h

-- ---- the message

pub tail_parsed : (m : MessageParts) → IsMessage m → MessagePart m (message_form m)
tail_parsed (AnyOctets []) h = inl (refl, refl)
tail_parsed (AnyOctets (x ∷ octets)) h = inr (32 ∷ [], x ∷ octets, refl, refl, (h.0, h.1, refl))
tail_parsed (Utf8Text text) h = inr (
  32 ∷ [],
  bom ++ text,
  refl,
  refl,
  (IsText-utf8 text h, (bom, text, refl, refl, refl)),
)

-- ---- the record

in_range : (i : Option ℤ) (t : Option CivilTime) → i ≡ option_map instant t → IfSome i IsInstant
    → IfSome t (λ c. IsInstant (instant c))
in_range i None e h = tt
in_range i (Some t) e h = subst (λ (o : Option ℤ). IfSome o IsInstant) e h

-- these parts with a time
abbrev pub timed : Parts ℤ → Option CivilTime → Parts CivilTime
timed r t = record {
  priority = r.priority;
  time = t;
  hostname = r.hostname;
  app_name = r.app_name;
  proc_id =
      r.proc_id;
  msg_id = r.msg_id;
  elements = r.elements;
  message = r.message;
}

-- what a canonical text spells
pub record Spelled (r : Parts ℤ) (b : List ℕ) : Type 0 where
  pub time : Option CivilTime
  pub same : r.time ≡ option_map instant time
  pub text : SyslogMsg (timed r time) b
  pub range : IsInRange (timed r time)

pub canonical_spelled : (r : Parts ℤ) (b : List ℕ) → HasRecordParts r → Canonical r b → Spelled r b
unfolding HeaderForm
canonical_spelled r b k (
  x,
  y,
  e,
  (prefix, behind, f, g, (spaced, words, i, (time, space, j, l, m), n)),
  (d, t, o, p, q),
) =
    let named_time = named r.time time l in
    record {
      time = named_time.time;
      same = named_time.same;
      text = (
        x,
        y,
        e,
        header_parsed r named_time.time time words x k named_time.text
            (f ∙ ap (λ (s : List ℕ). s ++ behind) g
            ∙ ap (λ (s : List ℕ). priority_version_form r.priority ++ s)
            (i ∙ ap (λ (s : List ℕ). s ++ words) (j ∙ ap (λ (s : List ℕ). time ++ s) m))) n,
        (
          d,
          t,
          o,
          subst (StructuredDataText r.elements) (sym p) (data_parsed r.elements k.elements),
          subst (MessagePart r.message) (sym q) (tail_parsed r.message k.message),
        ),
      );
      range = in_range r.time named_time.time named_time.same k.time;
    }

pub record_parts : (r : Parts ℤ) → IsRecord r → HasRecordParts r
record_parts r k = record {
  priority = k.priority;
  time = k.time;
  hostname = k.hostname;
  app_name =
      k.app_name;
  proc_id = k.proc_id;
  msg_id = k.msg_id;
  elements = k.elements;
  message = k.message;
}

pub canonical_well_formed : (r : Parts ℤ) (b : List ℕ) → IsRecord r → Canonical r b → WellFormed r b
canonical_well_formed r b k h =
    let s = canonical_spelled r b (record_parts r k) h in (
      timed r s.time,
      s.text,
      s.range,
      distinct_by_id r.elements k.by_id,
      record {
        priority = refl;
        time = s.same;
        hostname = refl;
        app_name = refl;
        proc_id = refl;
        msg_id =
            refl;
        elements = IsPermutation-refl r.elements;
        by_id = k.by_id;
        message = refl;
      },
    )

-- ---- one canonical text

pub canonical_once : (r : Parts ℤ) (b c : List ℕ) → Canonical r b → Canonical r c → b ≡ c
unfolding HeaderForm
canonical_once r b c h k =
    let w3 : Language = SpacedWord r.hostname in
    let w4 : Language = SpacedWord r.app_name in
    let w5 : Language = SpacedWord r.proc_id in
    let w6 : Language = SpacedWord r.msg_id in
    let time : Language = TimeForm r.time ⋅ Only (32 ∷ []) in
    let prefix : Language = Only (priority_version_form r.priority) in
    let ends : Language = Only (structured_data_form r.elements) ⋅ Only (message_form r.message) in
    once (prefix ⋅ time ⋅ w3 ⋅ w4 ⋅ w5 ⋅ w6) ends b c
    (λ s t. once prefix (time ⋅ w3 ⋅ w4 ⋅ w5 ⋅ w6) s t (only_once (priority_version_form r.priority))
    (λ s t. once time (w3 ⋅ w4 ⋅ w5 ⋅ w6) s t
    (λ s t. once (TimeForm r.time) (Only (32 ∷ [])) s t (time_once r.time) (only_once (32 ∷ [])))
    (λ s t. once w3 (w4 ⋅ w5 ⋅ w6) s t (word_once r.hostname)
    (λ s t. once w4 (w5 ⋅ w6) s t (word_once r.app_name)
    (λ s t. once w5 w6 s t (word_once r.proc_id) (word_once r.msg_id))))))
    (λ s t. once (Only (structured_data_form r.elements)) (Only (message_form r.message)) s t
    (only_once (structured_data_form r.elements)) (only_once (message_form r.message))) h k

-- two records are one exactly where their canonical texts are
pub canonical_injective : (r q : Parts ℤ) (b c : List ℕ) → IsRecord r → IsRecord q → Canonical r b → Canonical q c
    → (r ≡ q) ↔ (b ≡ c)
canonical_injective r q b c k l h i = (
  λ same. canonical_once q b c (subst (λ (p : Parts ℤ). Canonical p b) same h) i,
  λ same. one_meaning r q b (canonical_well_formed r b k h)
      (subst (WellFormed q) (sym same) (canonical_well_formed q c l i)),
)
