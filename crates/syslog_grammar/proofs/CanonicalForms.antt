-- The canonical form of a record, part by part.
use Rattle.std.proofs.Common.{◌≡◌, ℕ, ◌-◌, ◌≤◌, List, [], ◌∷◌, ◌++◌, length, take, drop, refl, sym, ap, subst, ◌∙◌}
use Rattle.std.proofs.Common.{append_assoc, arith, Bool, true, false, not}
use Rattle.std.specs.Prelude.{◌↔◌, IsTrue, ℤ, Option, Some, None, IfSome, MatchOption, option_map, decimal}
use Rattle.std.specs.Option.{is_some}
use Rattle.std.proofs.lemmas.List.{length-append, append_cancel_right}
use Rattle.std.proofs.Math.Seq.{take-append_seam}
use Rattle.octet_language.specs.Language.{Language, AnyOf}
use Rattle.octet_language.specs.Reading.{Follows}
use Rattle.syslog_value.specs.Parts.{Parts, IsInstant}
use Rattle.syslog_fields.specs.Canonical.{priority_version_form, structured_data_form, message_form, SpacedWord}
use Rattle.syslog_fields.specs.Canonical.{HeaderForm, Canonical}
use Rattle.syslog_fields.specs.Dates.{time_of}
use Rattle.syslog_fields.specs.Grammar.{HeaderParts, Header, Priority, Version, Spaced, Nilable, Word}
use Rattle.syslog_fields.specs.Grammar.{StructuredDataText, MessagePart}
use Rattle.syslog_fields.specs.Time.{TimeText, instant}
use Rattle.syslog_fields.proofs.Fractions.{AnyTime, IsPrefixFree-nilable_time}
use Rattle.syslog_reading.specs.Faults.{AreDistinct}
use Rattle.syslog_reading.specs.Fields.{header_parts}
use Rattle.syslog_reading.specs.Ids.{HoldsDistinct, HoldsRepeated}
use Rattle.syslog_reading.specs.Instants.{IsOutOfRange, IsTimeInRange}
use Rattle.syslog_reading.specs.Parsing.{IsParsed, IsSyntaxFault}
use Rattle.syslog_reading.specs.WellFormed.{HasRecordParts}
use Rattle.syslog_reading.specs.Views.{message_parts}
use Rattle.syslog_reading.specs.declared.fault.Fault.{Fault}
use Rattle.syslog_reading.specs.declared.fault.Fault.TheVariants.{Syntax, InstantRange, RepeatedId}
use Rattle.syslog_reading.specs.declared.syntax.Parsed.{Parsed}
use Rattle.syslog_reading.proofs.Excluded.{not_distinct, same_range}
use Rattle.syslog_reading.proofs.Headers.{IsPrefixFree-header, IsPrefixFree-prefix, Prefix, stands_at}
use Rattle.syslog_reading.proofs.Laws.{header_same, same_parts}
use Rattle.syslog_reading.proofs.OneMeaning.{by_prefix, data_same, tail_same, tail_prefix}
use Rattle.syslog_reading.proofs.Valid.{parsed_valid}
use Rattle.syslog_reading.proofs.Viewing.{parts_of, parsed_by, in_range_by, out_of_range, same_instant}
use Rattle.syslog_grammar.specs.ElementOrders.{IsInOrder}
use Rattle.syslog_grammar.specs.Unsorted.{IsUnsortedRecord, IsFormOf, HoldsForm}
use Rattle.syslog_grammar.specs.declared.canonical_form.ElementOrder.{ElementOrder}
use Rattle.syslog_grammar.specs.declared.canonical_form.ElementOrder.TheVariants.{AsGiven}
use Rattle.syslog_grammar.proofs.Bounded.{word_len}
use Rattle.syslog_grammar.proofs.CanonicalParses.{named, header_parsed, data_parsed, tail_parsed, canonical_spelled}
use Rattle.syslog_grammar.proofs.CanonicalParses.{timed}
use Rattle.syslog_grammar.proofs.DataForms.{DataAnswer}
use Rattle.syslog_grammar.proofs.TimeForms.{TimeSpace, Begins, any_time}
use Rattle.syslog_reading.proofs.ReadData.{one_data}

-- ---- the time in a header

-- the header of these fields with an instant in the offset of the time
abbrev FormOf : HeaderParts → Language
FormOf h = HeaderForm h.priority (option_map instant h.time) h.hostname h.app_name h.proc_id h.msg_id

-- the time of a header and what follows it
record TimeAt (h : HeaderParts) (header rest from : List ℕ) : Type 0 where
  pub time : List ℕ
  pub others : List ℕ
  pub parts : from ≡ time ++ (others ++ rest)
  pub parse : Spaced (Nilable TimeText h.time) time
  pub formed : TimeSpace (option_map instant h.time) time → FormOf h header

pub word_formed : (n : ℕ) (w : Option (List ℕ)) (b : List ℕ) → Spaced (Nilable (Word n) w) b → SpacedWord w b
word_formed n w b (x, y, e, h, k) = (x, y, e, word_len n w x h, k)

prefix_formed : (p : ℕ) (x y : List ℕ) → Priority p x → Spaced Version y → x ++ y ≡ priority_version_form p
prefix_formed p x y (a, c, e, h, (d, f, g, (most, i), j)) (u, v, k, l, m) =
    let first : x ≡ 60 ∷ (decimal p ++ 62 ∷ []) = e ∙ rw (h, g, i, j) refl in
    let second : y ≡ 49 ∷ 32 ∷ [] = k ∙ rw (l, m) refl in
    rw (first, second) (ap (λ (s : List ℕ). 60 ∷ s) (append_assoc (decimal p) (62 ∷ []) (49 ∷ 32 ∷ [])))

time_at : (h : HeaderParts) (header rest from b : List ℕ) → Header h header → b ≡ header ++ rest → Follows Prefix b from
    → TimeAt h header rest from
unfolding Header HeaderForm
time_at h header rest from b (
  x0,
  y0,
  e0,
  h0,
  (x1, y1, e1, h1, (x2, y2, e2, h2, (x3, y3, e3, h3, (x4, y4, e4, h4, (x5, y5, e5, h5, h6))))),
) e (t, f, k) =
    let inner : header ≡ (x0 ++ x1) ++ (x2 ++ y2) =
    e0 ∙ ap (λ (s : List ℕ). x0 ++ s) (e1 ∙ ap (λ (s : List ℕ). x1 ++ s) e2) ∙ sym (append_assoc x0 x1 (x2 ++ y2))
    in
    let whole : b ≡ (x0 ++ x1) ++ (x2 ++ (y2 ++ rest)) =
    e ∙ ap (λ (s : List ℕ). s ++ rest) inner ∙ append_assoc (x0 ++ x1) (x2 ++ y2) rest
    ∙ ap (λ (s : List ℕ). (x0 ++ x1) ++ s) (append_assoc x2 y2 rest) in
    let both = by_prefix Prefix t from (x0 ++ x1) (x2 ++ (y2 ++ rest)) IsPrefixFree-prefix k
    (x0, x1, refl, (h.priority, h0), h1) (sym f ∙ whole) in
    record {
      time = x2;
      others = y2;
      parts = both.1;
      parse = h2;
      formed = λ form. (
        x0 ++ x1,
        x2 ++ y2,
        inner,
        prefix_formed h.priority x0 x1 h0 h1,
        (
          x2,
          y2,
          refl,
          form,
          (
            x3,
            y3,
            e3,
            word_formed 255 h.hostname x3 h3,
            (
              x4,
              y4,
              e4,
              word_formed 48 h.app_name x4 h4,
              (x5, y5, e5, word_formed 128 h.proc_id x5 h5, word_formed 32 h.msg_id y5 h6),
            ),
          ),
        ),
      );
    }

-- ---- a spelling in its form

-- the instant, what is at the time, the structured data and the tail
pub record InForm (order : ElementOrder) (b : List ℕ) (s : Parsed) (k : IsParsed b s) : Type 0 where
  pub range : IfSome (option_map (λ t. instant (time_of t)) s.fields.time) IsInstant
  pub time : Begins (TimeSpace (option_map (λ t. instant (time_of t)) s.fields.time)) k.time.0
  pub elements : (s.«structured_data».now ≡ structured_data_form k.elements.0) × IsInOrder order k.elements.0
  pub message_part : k.end ≡ message_form (message_parts s.message)

pub time_given : (b : List ℕ) (s : Parsed) (k : IsParsed b s)
    → Begins (Spaced (Nilable TimeText (option_map time_of s.fields.time))) k.time.0
time_given b s k =
    let t = time_at (header_parts s.fields) k.fields.0 k.rest k.time.0 b k.fields.2 k.fields.1 k.time.1 in
    (t.others ++ k.rest, (t.time, t.parts, t.parse))

-- the record of the spelling
abbrev record_of : (b : List ℕ) (s : Parsed) → IsParsed b s → Parts ℤ
record_of b s k =
    let h = header_parts s.fields in
    record {
      priority = h.priority;
      time = option_map instant h.time;
      hostname = h.hostname;
      app_name =
          h.app_name;
      proc_id = h.proc_id;
      msg_id = h.msg_id;
      elements = k.elements.0;
      message = message_parts s.message;
    }

has_parts : (order : ElementOrder) (b : List ℕ) (s : Parsed) (k : IsParsed b s) → InForm order b s k
    → HasRecordParts (record_of b s k)
has_parts order b s k f =
    parsed_valid (parts_of s k.elements.0) b (parsed_by b s k.elements.0 k k.elements.1)
    (in_range_by s.fields.time (option_map (λ t. instant (time_of t)) s.fields.time) refl f.range)

is_canonical : (order : ElementOrder) (b : List ℕ) (s : Parsed) (k : IsParsed b s) → InForm order b s k
    → Canonical (record_of b s k) b
is_canonical order b s k f =
    let h = header_parts s.fields in
    let t = time_at h k.fields.0 k.rest k.time.0 b k.fields.2 k.fields.1 k.time.1 in
    let form : TimeSpace (option_map instant h.time) f.time.1.0 =
    subst (λ (i : Option ℤ). TimeSpace i f.time.1.0) (same_instant s.fields.time) f.time.1.2 in
    let same : t.time ≡ f.time.1.0 = IsPrefixFree-nilable_time t.time (t.others ++ k.rest) f.time.1.0 f.time.0
    (h.time, t.parse) (any_time (option_map instant h.time) f.time.1.0 form) (sym t.parts ∙ f.time.1.1) in (
      k.fields.0,
      k.rest,
      k.fields.1,
      t.formed (subst (TimeSpace (option_map instant h.time)) (sym same) form),
      (s.«structured_data».now, k.end, k.parts, f.elements.0, f.message_part),
    )

in_form : (order : ElementOrder) (b : List ℕ) (s : Parsed) (k : IsParsed b s) → InForm order b s k
    → HoldsForm order b s.«structured_data».now
in_form order b s k f = (
  record_of b s k,
  (has_parts order b s k f, f.elements.1, is_canonical order b s k f),
  k.elements.1,
)

-- ---- a canonical text as it is read

priority_prefix : (p : ℕ) → p ≤ 191 → Prefix (priority_version_form p)
priority_prefix p most = (
  60 ∷ (decimal p ++ 62 ∷ []),
  49 ∷ 32 ∷ [],
  ap (λ (s : List ℕ). 60 ∷ s) (sym (append_assoc (decimal p) (62 ∷ []) (49 ∷ 32 ∷ []))),
  (p, (60 ∷ [], decimal p ++ 62 ∷ [], refl, refl, (decimal p, 62 ∷ [], refl, (most, refl), refl))),
  (49 ∷ [], 32 ∷ [], refl, refl, refl),
)

range_same : (i j : Option ℤ) → i ≡ j → IfSome i IsInstant → IfSome j IsInstant
range_same i j e h = subst (λ (o : Option ℤ). IfSome o IsInstant) e h

of_canonical : (order : ElementOrder) (b : List ℕ) (s : Parsed) (k : IsParsed b s) (r : Parts ℤ) → IsFormOf order b r
    → InForm order b s k
unfolding HeaderForm
of_canonical order b s k r (
  valid,
  ordered,
  (x, y, e, (prefix, behind, f, g, (spaced, words, i, (time, space, j, l, m), n)), (d, t, o, p, q)),
) =
    let h = header_parts s.fields in
    let name = named r.time time l in
    let parts : HeaderParts = record {
      priority = r.priority;
      time = name.time;
      hostname = r.hostname;
      app_name =
          r.app_name;
      proc_id = r.proc_id;
      msg_id = r.msg_id;
    } in
    let header : Header parts x =
    header_parsed r name.time time words x valid name.text
    (f ∙ ap (λ (u : List ℕ). u ++ behind) g ∙ ap (λ (u : List ℕ). priority_version_form r.priority ++ u)
    (i ∙ ap (λ (u : List ℕ). u ++ words) (j ∙ ap (λ (u : List ℕ). time ++ u) m))) n in
    let headers = by_prefix (AnyOf Header) x y k.fields.0 k.rest IsPrefixFree-header (parts, header) (h, k.fields.2)
    (sym e ∙ k.fields.1) in
    let same = header_same parts h k.fields.0 (subst (Header parts) headers.0 header) k.fields.2 in
    let elements : StructuredDataText r.elements d =
    subst (StructuredDataText r.elements) (sym p) (data_parsed r.elements valid.elements) in
    let message_part : MessagePart r.message t =
    subst (MessagePart r.message) (sym q) (tail_parsed r.message valid.message) in
    let both = data_same r.elements k.elements.0 d t s.«structured_data».now k.end elements k.elements.1
    (tail_prefix r.message t message_part) (tail_prefix (message_parts s.message) k.end k.message_part)
    (sym o ∙ headers.1 ∙ k.parts) in
    let message = tail_same r.message (message_parts s.message) t message_part
    (subst (MessagePart (message_parts s.message)) (sym both.1) k.message_part) in
    let text : d ≡ s.«structured_data».now = append_cancel_right d s.«structured_data».now t
    (sym o ∙ headers.1 ∙ k.parts ∙ ap (λ (u : List ℕ). s.«structured_data».now ++ u) (sym both.1)) in
    let instants : r.time ≡ option_map (λ c. instant (time_of c)) s.fields.time =
    name.same ∙ same.time ∙ sym (same_instant s.fields.time) in
    let whole : b ≡ prefix ++ (spaced ++ (words ++ y)) =
    e ∙ ap (λ (u : List ℕ). u ++ y) (f ∙ ap (λ (u : List ℕ). prefix ++ u) i) ∙ append_assoc prefix (spaced ++ words) y
    ∙ ap (λ (u : List ℕ). prefix ++ u) (append_assoc spaced words y) in
    let times = by_prefix Prefix k.time.1.0 k.time.0 prefix (spaced ++ (words ++ y)) IsPrefixFree-prefix k.time.1.2
    (subst Prefix (sym g) (priority_prefix r.priority valid.priority)) (sym k.time.1.1 ∙ whole) in
    record {
      range = range_same r.time (option_map (λ c. instant (time_of c)) s.fields.time) instants valid.time;
      time = (
        words ++ y,
        (
          spaced,
          times.1,
          subst (λ (u : Option ℤ). TimeSpace u spaced) instants
              (time, space, j, l, m),
        ),
      );
      elements = (sym text ∙ p ∙ ap structured_data_form both.0, subst (IsInOrder order) both.0 ordered);
      message_part = sym both.1 ∙ q ∙ ap message_form message;
    }

-- ---- the tests

abbrev IsForm : ElementOrder → List ℕ → Type 0
IsForm order b = AnyOf (λ r c. IsFormOf order c r) b

-- octets outside the grammar
pub form_syntax : (order : ElementOrder) (b : List ℕ) (f : Fault) → IsSyntaxFault b f → ¬ (IsForm order b)
form_syntax order b (Syntax f at) (none, offset, field) (r, (valid, ordered, h)) = let s = canonical_spelled r b valid h
    in none (timed r s.time, s.text)
form_syntax order b (InstantRange at) h k = h
form_syntax order b (RepeatedId at) h k = h

-- a time that is out of range
pub form_range : (order : ElementOrder) (b : List ℕ) (s : Parsed) → IsParsed b s → IsOutOfRange s.fields.time
    → ¬ (IsForm order b)
form_range order b s k out (r, (valid, ordered, h)) =
    let t = canonical_spelled r b valid h in
    let fault = out_of_range b s k out in
    fault.2 (same_range fault.0.time t.time (same_parts fault.0 (timed r t.time) b fault.1 t.text).header.time t.range)

refuted : (r : Bool) (P : Type 0) → IsTrue r ↔ P → r ≡ false → ¬ P
refuted r P test isn p = let i : r ≡ true = test.1 p in absurd cc

-- the test of the time, where it is
abbrev pub TimeTest : Bool → Parsed → List ℕ → Type 0
TimeTest r s from = IsTrue r ↔ Begins (TimeSpace (option_map (λ t. instant (time_of t)) s.fields.time)) from

time_test : (b from : List ℕ) (s : Parsed) (k : IsParsed b s) (r : Bool)
    → from ≡ drop (length b - s.fields.time_remaining) b → TimeTest r s from → TimeTest r s k.time.0
time_test b from s k r e test = subst (TimeTest r s) (stands_at b from s.fields.time_remaining k.time e) test

-- what comes before the timestamp is canonical
pub prefix_read : (b : List ℕ) (s : Parsed) → IsParsed b s
    → take (length b - s.fields.time_remaining) b ≡ priority_version_form s.fields.priority
prefix_read b s k =
    let (x, whole, (p, y, f, pri, (v, d, g, version, time))) = k.behind in
    let behind = s.fields.behind_time.now in
    let parted : b ≡ (p ++ v) ++ (d ++ behind) =
    whole ∙ ap (λ (u : List ℕ). u ++ behind) (f ∙ ap (λ (u : List ℕ). p ++ u) g ∙ sym (append_assoc p v d))
    ∙ append_assoc (p ++ v) d behind in
    let both = by_prefix Prefix k.time.1.0 k.time.0 (p ++ v) (d ++ behind) IsPrefixFree-prefix k.time.1.2
    (p, v, refl, ((header_parts s.fields).priority, pri), version) (sym k.time.1.1 ∙ parted) in
    let count : length b - s.fields.time_remaining ≡ length (p ++ v) =
    omega (arith, ap length parted, length-append (p ++ v) (d ++ behind), ap length both.1, k.time.2) in
    ap (λ (n : ℕ). take n b) count ∙ ap (take (length (p ++ v))) parted ∙ take-append_seam (p ++ v) (d ++ behind)
    ∙ prefix_formed s.fields.priority p v pri version

-- the time is in its form wherever it is followed, if it is where the rest of the record follows
pub begins_test : (s : Parsed) (from : List ℕ) (r : Bool)
    → Follows (Spaced (Nilable TimeText (option_map time_of s.fields.time))) from s.fields.behind_time.now
    → IsTrue r ↔ Follows (TimeSpace (option_map (λ t. instant (time_of t)) s.fields.time)) from s.fields.behind_time.now
    → TimeTest r s from
begins_test s from r (x, e, h) test = (
  λ u. (s.fields.behind_time.now, test.0 u),
  λ (more, (z, g, form)).
      let both = by_prefix AnyTime x s.fields.behind_time.now z more IsPrefixFree-nilable_time
      (option_map time_of s.fields.time, h)
      (any_time (option_map (λ t. instant (time_of t)) s.fields.time) z form) (sym e ∙ g) in
      test.1 (z, g ∙ ap (λ (u : List ℕ). z ++ u) (sym both.1), form),
)

pub form_time : (order : ElementOrder) (b from : List ℕ) (s : Parsed) → IsParsed b s → (r : Bool)
    → from ≡ drop (length b - s.fields.time_remaining) b → TimeTest r s from → r ≡ false → ¬ (IsForm order b)
form_time order b from s k r e test isn (q, h) =
    refuted r (Begins (TimeSpace (option_map (λ t. instant (time_of t)) s.fields.time)) k.time.0)
    (time_test b from s k r e test) isn (of_canonical order b s k q h).time

pub form_data : (order : ElementOrder) (b : List ℕ) (s : Parsed) → IsParsed b s → (r : Bool)
    → DataAnswer order r s.«structured_data».now → r ≡ false → ¬ (IsForm order b)
form_data order b s k r test isn (q, h) =
    refuted r ((s.«structured_data».now ≡ structured_data_form k.elements.0) × IsInOrder order k.elements.0)
    (test k.elements.0 k.elements.1) isn (of_canonical order b s k q h).elements

-- the test of the tail, by its length
abbrev pub TailTest : Bool → Parsed → ℕ → Type 0
TailTest r s count = (message_part : List ℕ) → MessagePart (message_parts s.message) message_part
    → count ≡ length message_part → IsTrue r ↔ (message_part ≡ message_form (message_parts s.message))

tail_count : (b : List ℕ) (s : Parsed) (k : IsParsed b s)
    → s.structured_data_remaining - length s.«structured_data».now ≡ length k.end
tail_count b s k = omega (arith, k.remaining, ap length k.parts, length-append s.«structured_data».now k.end)

pub form_tail : (order : ElementOrder) (b : List ℕ) (s : Parsed) → IsParsed b s → (r : Bool)
    → TailTest r s (s.structured_data_remaining - length s.«structured_data».now) → r ≡ false → ¬ (IsForm order b)
form_tail order b s k r test isn (q, h) =
    refuted r (k.end ≡ message_form (message_parts s.message)) (test k.end k.message_part (tail_count b s k)) isn
    (of_canonical order b s k q h).message_part

pub in_range : (s : Parsed) (i : Option ℤ)
    → (i ≡ option_map (λ c. instant (time_of c)) s.fields.time) × IfSome i IsInstant → IsTimeInRange s.fields.time
in_range s i range = range_same i (option_map (λ c. instant (time_of c)) s.fields.time) range.0 range.1

pub form_whole : (order : ElementOrder) (b from : List ℕ) (s : Parsed) (t d r : Bool) → IsParsed b s
    → IsTimeInRange s.fields.time
    → from ≡ drop (length b - s.fields.time_remaining) b → TimeTest t s from → t ≡ true
    → DataAnswer order d s.«structured_data».now → d ≡ true
    → TailTest r s (s.structured_data_remaining - length s.«structured_data».now) → r ≡ true
    → HoldsForm order b s.«structured_data».now
form_whole order b from s t d r k range e time t_is elements d_is message_part r_is =
    in_form order b s k (record {
      range = range;
      time = (time_test b from s k t e time).0 t_is;
      elements = (elements k.elements.0 k.elements.1).0 d_is;
      message_part = (message_part k.end k.message_part (tail_count b s k)).0 r_is;
    })

-- ---- distinct ids

abbrev IsUnsorted : List ℕ → Type 0
IsUnsorted b = (r : Parts ℤ) × IsUnsortedRecord r × Canonical r b

-- two records of one canonical form have the same elements
same_elements : (b : List ℕ) (r q : Parts ℤ) → HasRecordParts r → Canonical r b → HasRecordParts q → Canonical q b
    → r.elements ≡ q.elements
same_elements b r q k h l i =
    let s = canonical_spelled r b k h in
    let t = canonical_spelled q b l i in
    (same_parts (timed r s.time) (timed q t.time) b s.text t.text).elements

pub unsorted_some : (b text : List ℕ) (o : Option ℕ) (r : Bool) → HoldsForm AsGiven b text
    → MatchOption o (HoldsDistinct text) (HoldsRepeated text) → is_some o ≡ not r → IsTrue r ↔ IsUnsorted b
unsorted_some b text None true (q, (valid, ordered, h), d) (es, k, distinct) e =
    (λ u. (q, (valid, subst AreDistinct (one_data es q.elements text k d) distinct), h), λ u. refl)
unsorted_some b text None false form all e = absurd cc
unsorted_some b text (Some at) true form all e = absurd cc
unsorted_some b text (Some at) false (q, (valid, ordered, h), d) (es, k, before, found, offset) e = (
  λ u. absurd cc,
  λ (s, (valid', distinct), i).
      let same : s.elements ≡ before ++ found.element ∷ found.behind =
      same_elements b s q valid' i valid h ∙ one_data q.elements es text d k ∙ found.parts in
      absurd (not_distinct before found.element found.behind found.same (subst AreDistinct same distinct)),
)
