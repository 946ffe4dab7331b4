-- What a view shows of a whole record.
use Rattle.std.proofs.Common.{◌≡◌, ℕ, zero, suc, ◌+◌, ◌-◌, ◌≤◌, List, [], ◌∷◌, ◌++◌, length, get_or, refl, sym, ap}
use Rattle.std.proofs.Common.{subst, ◌∙◌, append_assoc, arith, inl, inr}
use Rattle.std.specs.Prelude.{Option, Some, None, IfSome, option_map, ℤ}
use Rattle.std.specs.Option.{ForSome}
use Rattle.std.specs.List.{AllByRecursion}
use Rattle.std.proofs.lemmas.Int.{ints}
use Rattle.std.proofs.lemmas.List.{length-append}
use Rattle.octet_language.specs.Digits.{IsDigit}
use Rattle.octet_language.specs.Language.{Only, ◌⋅◌, AnyOf}
use Rattle.syslog_value.specs.Parts.{Parts, ElementParts, IsInstant}
use Rattle.syslog_value.specs.Instants.{IsCivil, IsOffset}
use Rattle.syslog_fields.specs.Dates.{time_of}
use Rattle.syslog_fields.specs.Grammar.{HeaderParts, Header, Nilable, Spaced, Priority, Version, StructuredDataText}
use Rattle.syslog_fields.specs.Grammar.{SyslogMsg, MessagePart}
use Rattle.syslog_fields.specs.Time.{CivilTime, TimeText, FractionText, ZoneText, instant}
use Rattle.syslog_fields.specs.declared.timestamp.Timestamp.{Timestamp}
use Rattle.syslog_fields.proofs.Fractions.{six_digits}
use Rattle.syslog_reading.specs.CanonicalOctets.{shown_parts}
use Rattle.syslog_reading.specs.Faults.{IsInRange, PrefixEnds, FaultOf}
use Rattle.syslog_reading.specs.Fields.{header_parts, words_of, TimeStands}
use Rattle.syslog_reading.specs.Ids.{HoldsDistinct, HoldsRepeated}
use Rattle.syslog_reading.specs.Instants.{IsOutOfRange}
use Rattle.syslog_reading.specs.Parsing.{IsParsed}
use Rattle.syslog_reading.specs.ShownParts.{IsViewOf}
use Rattle.syslog_reading.specs.Views.{message_parts}
use Rattle.syslog_reading.specs.declared.syntax.Parsed.{Parsed}
use Rattle.syslog_reading.specs.declared.fault.Fault.TheVariants.{InstantRange, RepeatedId}

-- the parts of a spelling with these elements
abbrev pub parts_of : Parsed → List ElementParts → Parts CivilTime
parts_of s es =
    let h = header_parts s.fields in
    record {
      priority = h.priority;
      time = h.time;
      hostname = h.hostname;
      app_name = h.app_name;
      proc_id =
          h.proc_id;
      msg_id = h.msg_id;
      elements = es;
      message = message_parts s.message;
    }

pub parsed_by : (b : List ℕ) (s : Parsed) (es : List ElementParts) → IsParsed b s
    → StructuredDataText es s.«structured_data».now → SyslogMsg (parts_of s es) b
parsed_by b s es k d = (
  k.fields.0,
  k.rest,
  k.fields.1,
  k.fields.2,
  (s.«structured_data».now, k.end, k.parts, d, k.message_part),
)

-- what follows the timestamp
pub behind_time : {b : List ℕ} (s : Parsed) (k : IsParsed b s)
    → (words_of (header_parts s.fields) ⋅ Only s.«structured_data».now ⋅ MessagePart (message_parts s.message))
    s.fields.behind_time.now
behind_time s k = (
  k.words.0,
  s.«structured_data».now ++ k.end,
  k.words.1
      ∙ ap (λ (r : List ℕ). k.words.0 ++ r) k.parts,
  k.words.2,
  (s.«structured_data».now, k.end, refl, refl, k.message_part),
)

-- ---- the priority and the time of a header

pub header_priority : (h : HeaderParts) (b : List ℕ) → Header h b → h.priority ≤ 191
unfolding Header
header_priority h b (x, y, e, (c, d, f, g, (u, v, i, (n, j), k)), l) = n

header_time : (h : HeaderParts) (b : List ℕ) → Header h b → (s : List ℕ) × Nilable TimeText h.time s
unfolding Header
header_time h b (x0, y0, e0, h0, (x1, y1, e1, h1, (x2, y2, e2, (u, v, f, t, k), l))) = (u, t)

digit_most : (ds : List ℕ) (i : ℕ) → AllByRecursion IsDigit ds → get_or ds i 0 ≤ 57
digit_most [] i h = omega arith
digit_most (x ∷ ds) zero h = h.0.1
digit_most (x ∷ ds) (suc i) h = digit_most ds i h.1

micros_most : (m : ℕ) (b : List ℕ) → FractionText m b → m ≤ 999_999
micros_most m b (inl (e, f)) = omega arith
micros_most m b (inr (x, y, e, f, (l, h, d, g))) =
    omega (
      arith,
      g,
      six_digits y h,
      digit_most y 0 d,
      digit_most y 1 d,
      digit_most y 2 d,
      digit_most y 3 d,
      digit_most y 4 d,
      digit_most y 5 d,
    )

zone_offset : (o : ℤ) (b : List ℕ) → ZoneText o b → IsOffset o
zone_offset o b (inl (e, f)) = (omega (arith, ints, e), omega (arith, ints, e))
zone_offset o b (inr (
  m,
  inl (
    e,
    (
      x,
      y,
      f,
      g,
      (hour, minute, i, (u, v, j, (l1, l2, l3), (w, z, k, n, (p1, p2, p3)))),
    ),
  ),
)) =
    (omega (arith, ints, e), omega (arith, ints, e))
zone_offset o b (inr (
  m,
  inr (
    e,
    (
      x,
      y,
      f,
      g,
      (hour, minute, i, (u, v, j, (l1, l2, l3), (w, z, k, n, (p1, p2, p3)))),
    ),
  ),
)) =
    (omega (arith, ints, e), omega (arith, ints, e))

-- a spelled time exists
pub time_exists : (t : CivilTime) (b : List ℕ) → TimeText t b → IsCivil t.civil × IsOffset t.offset
time_exists t b (
  x,
  y,
  e,
  (a, c, f, (yl, ye), (d, g, h, i, (j, k, l, (ml, mh, me), (m, n, o, p, (dl, dh, de))))),
  (
    q,
    r,
    s,
    u,
    (
      v,
      w,
      z,
      (
        v1,
        w1,
        z1,
        (hl, hh, he),
        (v2, w2, z2, i2, (v3, w3, z3, (nl, nh, ne), (v4, w4, z4, i4, (sl, sh, se)))),
      ),
      (v5, w5, z5, fr, zo),
    ),
  ),
) =
    (((yl, ml, mh, dl, dh), (hh, nh, sh, micros_most t.civil.micros v5 fr)), zone_offset t.offset w5 zo)

-- ---- the faults

stands_prefix : (b : List ℕ) (remaining : ℕ) → TimeStands b remaining
    → PrefixEnds (AnyOf Priority ⋅ Spaced Version) b (length b - remaining)
stands_prefix b remaining (rest, (t, e, h), n) = (t, rest, e, h, omega (arith, ap length e, length-append t rest, n))

not_in_range : (time : Option Timestamp) (u : List ℕ) → Nilable TimeText (option_map time_of time) u → IsOutOfRange time
    → ¬ (IfSome (option_map time_of time) (λ t. IsInstant (instant t)))
not_in_range None u h out k = out
not_in_range (Some t) u h out k = let e = time_exists (time_of t) u h in out e.0 e.1 k

pub out_of_range : (b : List ℕ) (s : Parsed) → IsParsed b s → IsOutOfRange s.fields.time
    → FaultOf b (InstantRange (length b - s.fields.time_remaining))
out_of_range b s k out =
    let t = header_time (header_parts s.fields) k.fields.0 k.fields.2 in (
      parts_of s k.elements.0,
      parsed_by b s k.elements.0 k k.elements.1,
      not_in_range s.fields.time t.0 t.1 out,
      stands_prefix b s.fields.time_remaining k.time,
    )

pub same_instant : (time : Option Timestamp) → option_map (λ s. instant (time_of s)) time
    ≡ option_map instant (option_map time_of time)
same_instant None = refl
same_instant (Some t) = refl

pub in_range_by : (time : Option Timestamp) (m : Option ℤ) → m ≡ option_map (λ s. instant (time_of s)) time
    → IfSome m IsInstant → IfSome (option_map time_of time) (λ t. IsInstant (instant t))
in_range_by None m e h = tt
in_range_by (Some t) m e h = subst (λ (o : Option ℤ). IfSome o IsInstant) e h

pub in_range : (s : Parsed) (es : List ElementParts) (m : Option ℤ)
    → m ≡ option_map (λ t. instant (time_of t)) s.fields.time → IfSome m IsInstant → IsInRange (parts_of s es)
in_range s es m e h = in_range_by s.fields.time m e h

pub view_instant : (s : Parsed) (es : List ElementParts) (m : Option ℤ)
    → m ≡ option_map (λ t. instant (time_of t)) s.fields.time → m ≡ option_map instant (parts_of s es).time
view_instant s es m e = e ∙ same_instant s.fields.time

pub repeated_id : (b : List ℕ) (s : Parsed) (m : Option ℤ) (offset : ℕ) → IsParsed b s
    → m ≡ option_map (λ t. instant (time_of t)) s.fields.time → IfSome m IsInstant
    → HoldsRepeated s.«structured_data».now offset
    → FaultOf b (RepeatedId (length b - s.structured_data_remaining + offset))
repeated_id b s m offset k e h (es, d, before, r, (x, y, f, (u, v, g, l, n), at)) = (
  parts_of s es,
  parsed_by b s es k d,
  in_range s es m e h,
  before,
  r,
  (
    k.fields.0 ++ x,
    y ++ k.end,
    k.fields.1 ∙ ap (λ (w : List ℕ). k.fields.0 ++ w)
        (k.parts ∙ ap (λ (w : List ℕ). w ++ k.end) f ∙ append_assoc x y k.end)
        ∙ sym (append_assoc k.fields.0 x (y ++ k.end)),
    (k.fields.0, x, refl, (header_parts s.fields, k.fields.2), (u, v, g, l, n)),
    omega (arith, ap length k.fields.1, length-append k.fields.0 k.rest, k.remaining, at, length-append k.fields.0 x),
  ),
)

some_same : (z x : ℤ) → Some z ≡ Some x → z ≡ x
some_same z x e = cc

pub valid_micros : (m : Option ℤ) → IfSome m IsInstant → ForSome m IsInstant
valid_micros None h = λ x e. absurd cc
valid_micros (Some z) h = λ x e. subst IsInstant (some_same z x e) h

pub view_of : (b : List ℕ) (s : Parsed) (m : Option ℤ) → IsParsed b s
    → m ≡ option_map (λ t. instant (time_of t)) s.fields.time → IfSome m IsInstant
    → HoldsDistinct s.«structured_data».now → IsViewOf b (shown_parts s m)
view_of b s m k e h (es, d, distinct) = (
  parts_of s es,
  parsed_by b s es k d,
  in_range s es m e h,
  distinct,
  record {
    priority = refl;
    instant = view_instant s es m e;
    hostname = refl;
    app_name = refl;
    proc_id = refl;
    msg_id = refl;
    elements = d;
    message = refl;
    behind_time = behind_time s k;
    lies = k.behind;
  },
)
