-- The canonical text of a record is at most twice as long as any text of it, and seven octets.
use Rattle.std.proofs.Common.{◌≡◌, ℕ, ◌+◌, ◌*◌, ◌≤◌, List, [], ◌∷◌, ◌++◌, length, refl, ap, ◌∙◌, arith, inl, inr}
use Rattle.std.specs.Prelude.{ℤ, Option, Some, None, option_map, if◌then◌else◌, decimal}
use Rattle.std.specs.List.{flat_map, sum_by}
use Rattle.std.specs.List.Sorted.{IsPermutation}
use Rattle.std.proofs.lemmas.Grind.{flat_map-append}
use Rattle.std.proofs.lemmas.List.{length-append}
use Rattle.std.proofs.lemmas.List.Concat.{length-flat_map}
use Rattle.std.proofs.lemmas.List.Sums.{sum_by-cons}
use Rattle.std.proofs.lemmas.List.Sorted.{sum_by-IsPermutation}
use Rattle.octet_language.specs.Language.{Only, ◌⋅◌, Each}
use Rattle.syslog_value.specs.declared.civil.Civil.{Civil}
use Rattle.syslog_value.specs.Parts.{ParamParts, ElementParts, MessageParts, AnyOctets, Utf8Text, Parts}
use Rattle.syslog_fields.specs.Canonical.{civil_text, TimeForm, priority_version_form, word_form, needs_escape, escaped}
use Rattle.syslog_fields.specs.Canonical.{param_form, element_form, structured_data_form, message_form, SpacedWord}
use Rattle.syslog_fields.specs.Canonical.{HeaderForm, Canonical}
use Rattle.syslog_fields.specs.Grammar.{HeaderParts, Header, header_of, Priority, Nilable, Word, Spaced, Version, Param}
use Rattle.syslog_fields.specs.Grammar.{Element, StructuredDataText, Message, MessagePart}
use Rattle.syslog_fields.specs.Time.{CivilTime, TimeText, ZoneText, FractionText, instant, padded}
use Rattle.syslog_fields.specs.Values.{Piece, Spells}
use Rattle.syslog_fields.proofs.EscapedRuns.{bare}
use Rattle.syslog_fields.proofs.Unescaped.{plain_bare}
use Rattle.syslog_reading.specs.WellFormed.{WellFormed, IsMeaning}
use Rattle.syslog_reading.proofs.OneMeaning.{fixed}
use Rattle.syslog_grammar.proofs.CanonicalParses.{special}

-- ---- values

abbrev pub len : List ℕ → ℕ
len b = length b

pub together : (x y b : List ℕ) → b ≡ x ++ y → len b ≡ len x + len y
together x y b e = ap length e ∙ length-append x y

escaped_join : (x y : List ℕ) → len (escaped (x ++ y)) ≡ len (escaped x) + len (escaped y)
escaped_join x y =
    ap length (flat_map-append (λ n. if needs_escape n then 92 ∷ n ∷ [] else n ∷ []) x y)
    ∙ length-append (escaped x) (escaped y)

piece_bound : (m b : List ℕ) → Piece m b → len (escaped m) ≤ 2 * len b
piece_bound m b (inl (x, s, e, f)) = omega
    (arith, ap length f, ap (λ (u : List ℕ). len (escaped u)) e, ap length (special x s))
piece_bound m b (inr (inl (c, k, e, f))) =
    omega (
      arith,
      ap length f,
      ap (λ (u : List ℕ). len (escaped u)) e,
      escaped_join (92 ∷ []) c,
      ap length (special 92 (inr (inl refl))),
      ap length (bare c (plain_bare c k)),
    )
piece_bound m b (inr (inr (k, e))) = omega (arith, ap length e, ap length (bare m (plain_bare m k)))

pieces_bound : (ms : List (List ℕ)) (b : List ℕ) → Each Piece ms b → len (escaped (flat_map (λ m. m) ms)) ≤ 2 * len b
pieces_bound [] b h = omega arith
pieces_bound (m ∷ ms) b (x, y, e, h, k) =
    omega (arith, together x y b e, piece_bound m x h, pieces_bound ms y k, escaped_join m (flat_map (λ u. u) ms))

value_bound : (text raw : List ℕ) → Spells text raw → len (escaped text) ≤ 2 * len raw
value_bound text raw (ms, e, h) = omega (arith, ap (λ (u : List ℕ). len (escaped u)) e, pieces_bound ms raw h)

-- ---- elements

param_len : (p : ParamParts) → len (param_form p) ≡ 4 + len p.name + len (escaped p.value)
param_len p = omega (
  arith,
  length-append p.name (61 ∷ 34 ∷ escaped p.value),
  length-append (escaped p.value) (34 ∷ []),
  length-append (p.name ++ (61 ∷ 34 ∷ escaped p.value)) (34 ∷ []),
)

param_bound : (p : ParamParts) (b : List ℕ) → Param p b → len (param_form p) ≤ 2 * len b
param_bound p b (x0, y0, e0, h0, (x1, y1, e1, (n, h1), (x2, y2, e2, h2, (x3, y3, e3, h3, h4)))) =
    omega (
      arith,
      together x0 y0 b e0,
      together x1 y1 y0 e1,
      together x2 y2 y1 e2,
      together x3 y3 y2 e3,
      ap length h0,
      ap length h1,
      ap length h2,
      ap length h4,
      value_bound p.value x3 h3,
      param_len p,
    )

params_bound : (ps : List ParamParts) (b : List ℕ) → Each Param ps b → len (flat_map param_form ps) ≤ 2 * len b
params_bound [] b h = omega arith
params_bound (p ∷ ps) b (x, y, e, h, k) = omega (
  arith,
  together x y b e,
  param_bound p x h,
  params_bound ps y k,
  length-append (param_form p) (flat_map param_form ps),
)

element_len : (e : ElementParts) → len (element_form e) ≡ 2 + len e.id + len (flat_map param_form e.params)
element_len e = omega (
  arith,
  length-append e.id (flat_map param_form e.params),
  length-append (e.id ++ flat_map param_form e.params) (93 ∷ []),
)

element_bound : (e : ElementParts) (b : List ℕ) → Element e b → len (element_form e) ≤ 2 * len b
element_bound e b (x0, y0, e0, h0, (x1, y1, e1, (n, h1), (x2, y2, e2, h2, h3))) =
    omega (
      arith,
      together x0 y0 b e0,
      together x1 y1 y0 e1,
      together x2 y2 y1 e2,
      ap length h0,
      ap length h1,
      ap length h3,
      params_bound e.params x2 h2,
      element_len e,
    )

elements_bound : (es : List ElementParts) (b : List ℕ) → Each Element es b
    → sum_by (λ e. length (element_form e)) es ≤ 2 * len b
elements_bound [] b h = omega arith
elements_bound (e ∷ es) b (x, y, f, h, k) =
    omega (
      arith,
      together x y b f,
      element_bound e x h,
      elements_bound es y k,
      sum_by-cons (λ d. length (element_form d)) e es,
    )

data_len : (e : ElementParts) (es : List ElementParts)
    → len (structured_data_form (e ∷ es)) ≡ sum_by (λ d. length (element_form d)) (e ∷ es)
data_len e es = length-flat_map element_form (e ∷ es)

data_bound : (es fs : List ElementParts) (b : List ℕ) → StructuredDataText es b → IsPermutation es fs
    → len (structured_data_form fs) ≤ 2 * len b
data_bound [] [] b h p = omega (arith, ap length h)
data_bound (e ∷ es) [] b (x, y, f, h, k) p = omega (arith, together x y b f, element_bound e x h, element_len e)
data_bound [] (f ∷ fs) b h p = omega (
  arith,
  data_len f fs,
  sum_by-IsPermutation (λ d. length (element_form d)) [] (f ∷ fs) p,
)
data_bound (e ∷ es) (f ∷ fs) b h p =
    omega (
      arith,
      data_len f fs,
      sum_by-IsPermutation (λ d. length (element_form d)) (e ∷ es) (f ∷ fs) p,
      elements_bound (e ∷ es) b h,
    )

-- ---- the header

zone_some : (o : ℤ) (b : List ℕ) → ZoneText o b → 1 ≤ len b
zone_some o b (inl (e, f)) = omega (arith, ap length f)
zone_some o b (inr (m, inl (e, (x, y, f, g, h)))) = omega (arith, together x y b f, ap length g)
zone_some o b (inr (m, inr (e, (x, y, f, g, h)))) = omega (arith, together x y b f, ap length g)

pub time_some : (t : CivilTime) (b : List ℕ) → TimeText t b → 20 ≤ len b
time_some t b h = let f = fixed t b h in behind f.rest f.is f.behind
  where
    behind : (rest : List ℕ) → b ≡ padded 4 t.civil.year ++ (45 ∷ padded 2 t.civil.month) ++ (45 ∷ padded 2 t.civil.day)
        ++ (84 ∷ padded 2 t.civil.hour) ++ (58 ∷ padded 2 t.civil.minute) ++ (58 ∷ padded 2 t.civil.second) ++ rest
        → (FractionText t.civil.micros ⋅ ZoneText t.offset) rest → 20 ≤ len b
    behind rest e (x, y, f, g, h) = omega (arith, ap length e, together x y rest f, zone_some t.offset y h)

pub civil_len : (c : Civil) → len (civil_text c) ≡ 27
unfolding civil_text
civil_len c = refl

time_bound : (t : Option CivilTime) (b c : List ℕ) → Nilable TimeText t b → TimeForm (option_map instant t) c
    → len c ≤ len b + 7
time_bound None b c h k = omega (arith, ap length k)
time_bound (Some t) b c h (d, exists, e, f) = omega (arith, ap length f, civil_len d, time_some t b h)

spaced_time : (t : Option CivilTime) (b c : List ℕ) → Spaced (Nilable TimeText t) b
    → (TimeForm (option_map instant t) ⋅ Only (32 ∷ [])) c → len c ≤ len b + 7
spaced_time t b c (x, y, e, h, k) (u, v, f, i, j) =
    omega (arith, together x y b e, together u v c f, ap length k, ap length j, time_bound t x u h i)

pub word_len : (n : ℕ) (w : Option (List ℕ)) (b : List ℕ) → Nilable (Word n) w b → b ≡ word_form w
word_len n None b h = h
word_len n (Some w) b h = h.1

word_bound : (n : ℕ) (w : Option (List ℕ)) (b c : List ℕ) → Spaced (Nilable (Word n) w) b → SpacedWord w c
    → len c ≡ len b
word_bound n w b c (x, y, e, h, k) (u, v, f, i, j) =
    omega (
      arith,
      together x y b e,
      together u v c f,
      ap length k,
      ap length j,
      ap length (word_len n w x h),
      ap length i,
    )

prefix_bound : (p : ℕ) (x y : List ℕ) → Priority p x → Spaced Version y → len (priority_version_form p) ≡ len x + len y
prefix_bound p x y (a, c, e, h, (d, f, g, (most, i), j)) (u, v, k, l, m) =
    omega (
      arith,
      together a c x e,
      together d f c g,
      together u v y k,
      ap length h,
      ap length i,
      ap length j,
      ap length l,
      ap length m,
      length-append (decimal p) (62 ∷ 49 ∷ 32 ∷ []),
    )

header_bound : (h : HeaderParts) (b c : List ℕ) → Header h b
    → HeaderForm h.priority (option_map instant h.time) h.hostname h.app_name h.proc_id h.msg_id c → len c ≤ len b + 7
unfolding Header HeaderForm
header_bound h b c (
  x0,
  y0,
  e0,
  h0,
  (
    x1,
    y1,
    e1,
    h1,
    (x2, y2, e2, h2, (x3, y3, e3, h3, (x4, y4, e4, h4, (x5, y5, e5, h5, h6)))),
  ),
)
    (u0, v0, f0, g0, (u2, v2, f2, g2, (u3, v3, f3, g3, (u4, v4, f4, g4, (u5, v5, f5, g5, g6))))) =
    let prefix = prefix_bound h.priority x0 x1 h0 h1 in
    let time = spaced_time h.time x2 u2 h2 g2 in
    let hostname = word_bound 255 h.hostname x3 u3 h3 g3 in
    let app_name = word_bound 48 h.app_name x4 u4 h4 g4 in
    let proc_id = word_bound 128 h.proc_id x5 u5 h5 g5 in
    let msg_id = word_bound 32 h.msg_id y5 v5 h6 g6 in
    omega (
      arith,
      together x0 y0 b e0,
      together x1 y1 y0 e1,
      together x2 y2 y1 e2,
      together x3 y3 y2 e3,
      together x4 y4 y3 e4,
      together x5 y5 y4 e5,
      together u0 v0 c f0,
      together u2 v2 v0 f2,
      together u3 v3 v2 f3,
      together u4 v4 v3 f4,
      together u5 v5 v4 f5,
      ap length g0,
    )

-- ---- the message

pub message_bound : (m : MessageParts) (b : List ℕ) → Message m b → len (message_form m) ≤ len b + 1
message_bound (AnyOctets []) b h = omega arith
message_bound (AnyOctets (x ∷ octets)) b h = omega (arith, ap length h.2)
message_bound (Utf8Text text) b (t, (x, y, e, h, k)) = omega (arith, together x y b e, ap length h, ap length k)

tail_bound : (m : MessageParts) (b : List ℕ) → MessagePart m b → len (message_form m) ≤ len b
tail_bound m b (inl (e, f)) = omega (arith, ap (λ (n : MessageParts). len (message_form n)) e)
tail_bound m b (inr (x, y, e, h, k)) = omega (arith, together x y b e, ap length h, message_bound m y k)

-- ---- the whole

abbrev Form : Option ℤ → HeaderParts → List ℕ → Type 0
Form time h c = HeaderForm h.priority time h.hostname h.app_name h.proc_id h.msg_id c

form_meant : (p : Parts CivilTime) (r : Parts ℤ) (c : List ℕ) → IsMeaning p r
    → HeaderForm r.priority r.time r.hostname r.app_name r.proc_id r.msg_id c
    → Form (option_map instant p.time) (header_of p) c
form_meant p r c m h = rw (← m.priority, ← m.time, ← m.hostname, ← m.app_name, ← m.proc_id, ← m.msg_id) h

pub canonical_bounded : (r : Parts ℤ) (b c : List ℕ) (n : ℕ) → WellFormed r b → Canonical r c → length b ≤ n
    → length c ≤ 2 * n + 7
canonical_bounded r b c n (p, (x, y, e, h, (d, t, f, k, l)), in_range, distinct, m) (u, v, g, i, (w, z, j, o, q)) most =
    let header = header_bound (header_of p) x u h (form_meant p r u m i) in
    let elements = data_bound p.elements r.elements d k m.elements in
    let message = tail_bound p.message t l in
    omega (
      arith,
      together x y b e,
      together d t y f,
      together u v c g,
      together w z v j,
      ap length o,
      ap length q,
      ap (λ (a : MessageParts). len (message_form a)) m.message,
    )
