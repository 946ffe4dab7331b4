-- The header: what each failing field says of the whole.
use Rattle.std.proofs.Common.{ℕ, List, [], ◌∷◌, refl, arith}
use Rattle.std.specs.Prelude.{Option, None}
use Rattle.std.specs.Fmt.{digits}
use Rattle.octet_language.specs.Language.{Language, ◌⋅◌, AnyOf, IsPrefixFree}
use Rattle.octet_language.specs.Reading.{Fails, Follows}
use Rattle.octet_language.proofs.Sequence.{IsPrefixFree-then}
use Rattle.octet_language.proofs.Chain.{Fails-same, Follows-then, IsPrefixFree-same, Behind, further, fails_here}
use Rattle.octet_language.proofs.Chain.{some_value}
use Rattle.std.proofs.Common.{◌≡◌, ◌-◌, ◌++◌, length, drop, sym, ap, ◌∙◌}
use Rattle.std.proofs.Common.{append_assoc}
use Rattle.std.specs.Prelude.{option_map}
use Rattle.std.proofs.lemmas.List.{length-append}
use Rattle.std.proofs.Math.Seq.{drop-append_seam}
use Rattle.syslog_fields.specs.Grammar.{HeaderParts, Header, Priority, Version, Word, Spaced, Nilable}
use Rattle.syslog_fields.specs.Time.{CivilTime, TimeText}
use Rattle.syslog_fields.proofs.Fractions.{AnyTime, nil_time, IsPrefixFree-nilable_time}
use Rattle.syslog_fields.proofs.Numbers.{IsPrefixFree-priority, IsPrefixFree-version}
use Rattle.syslog_fields.proofs.Words.{IsPrefixFree-any_word}
use Rattle.syslog_fields.specs.Dates.{time_of}
use Rattle.syslog_reading.specs.Fields.{before_words, words_of, header_parts, TimeStands}
use Rattle.syslog_reading.specs.Parsing.{IsParsed}
use Rattle.syslog_reading.specs.declared.syntax.Parsed.{Parsed}
use Rattle.syslog_reading.proofs.OneMeaning.{by_prefix}

abbrev AnyWord : ℕ → Language
AnyWord n = AnyOf (λ w. Spaced (Nilable (Word n) w))

nil_word : (n : ℕ) → AnyWord n (45 ∷ 32 ∷ [])
nil_word n = (None, (45 ∷ [], 32 ∷ [], refl, refl, refl))

abbrev From6 : Language
From6 = AnyWord 32

abbrev From5 : Language
From5 = AnyWord 128 ⋅ From6

abbrev From4 : Language
From4 = AnyWord 48 ⋅ From5

abbrev From3 : Language
From3 = AnyWord 255 ⋅ From4

abbrev From2 : Language
From2 = AnyTime ⋅ From3

abbrev From1 : Language
From1 = Spaced Version ⋅ From2

some6 : From6 (45 ∷ 32 ∷ [])
some6 = nil_word 32

some5 : From5 (45 ∷ 32 ∷ 45 ∷ 32 ∷ [])
some5 = (45 ∷ 32 ∷ [], 45 ∷ 32 ∷ [], refl, nil_word 128, some6)

some4 : From4 (45 ∷ 32 ∷ 45 ∷ 32 ∷ 45 ∷ 32 ∷ [])
some4 = (45 ∷ 32 ∷ [], 45 ∷ 32 ∷ 45 ∷ 32 ∷ [], refl, nil_word 48, some5)

some3 : From3 (45 ∷ 32 ∷ 45 ∷ 32 ∷ 45 ∷ 32 ∷ 45 ∷ 32 ∷ [])
some3 = (45 ∷ 32 ∷ [], 45 ∷ 32 ∷ 45 ∷ 32 ∷ 45 ∷ 32 ∷ [], refl, nil_word 255, some4)

some2 : From2 (45 ∷ 32 ∷ 45 ∷ 32 ∷ 45 ∷ 32 ∷ 45 ∷ 32 ∷ 45 ∷ 32 ∷ [])
some2 = (45 ∷ 32 ∷ [], 45 ∷ 32 ∷ 45 ∷ 32 ∷ 45 ∷ 32 ∷ 45 ∷ 32 ∷ [], refl, nil_time, some3)

some1 : From1 (49 ∷ 32 ∷ 45 ∷ 32 ∷ 45 ∷ 32 ∷ 45 ∷ 32 ∷ 45 ∷ 32 ∷ 45 ∷ 32 ∷ [])
some1 = (
  49 ∷ 32 ∷ [],
  45 ∷ 32 ∷ 45 ∷ 32 ∷ 45 ∷ 32 ∷ 45 ∷ 32 ∷ 45 ∷ 32 ∷ [],
  refl,
  (49 ∷ [], 32 ∷ [], refl, refl, refl),
  some2,
)

abbrev Whole : Language
Whole = AnyOf Priority ⋅ From1

whole_header : (s : List ℕ) → Whole s → AnyOf Header s
unfolding Header
whole_header s (
  x0,
  y0,
  e0,
  (v, h0),
  (
    x1,
    y1,
    e1,
    h1,
    (x2, y2, e2, (w2, h2), (x3, y3, e3, (w3, h3), (x4, y4, e4, (w4, h4), (x5, y5, e5, (w5, h5), (w6, h6))))),
  ),
) = (
  record { priority = v; time = w2; hostname = w3; app_name = w4; proc_id = w5; msg_id = w6 },
  (x0, y0, e0, h0, (x1, y1, e1, h1, (x2, y2, e2, h2, (x3, y3, e3, h3, (x4, y4, e4, h4, (x5, y5, e5, h5, h6)))))),
)

header_whole : (s : List ℕ) → AnyOf Header s → Whole s
unfolding Header
header_whole s (
  q,
  (
    x0,
    y0,
    e0,
    h0,
    (
      x1,
      y1,
      e1,
      h1,
      (x2, y2, e2, h2, (x3, y3, e3, h3, (x4, y4, e4, h4, (x5, y5, e5, h5, h6)))),
    ),
  ),
) = (
  x0,
  y0,
  e0,
  (q.priority, h0),
  (
    x1,
    y1,
    e1,
    h1,
    (
      x2,
      y2,
      e2,
      (q.time, h2),
      (
        x3,
        y3,
        e3,
        (q.hostname, h3),
        (x4, y4, e4, (q.app_name, h4), (x5, y5, e5, (q.proc_id, h5), (q.msg_id, h6))),
      ),
    ),
  ),
)

pub some_header : AnyOf Header (60 ∷ 48 ∷ 62 ∷ 49 ∷ 32 ∷ 45 ∷ 32 ∷ 45 ∷ 32 ∷ 45 ∷ 32 ∷ 45 ∷ 32 ∷ 45 ∷ 32 ∷ [])
unfolding digits
some_header = whole_header _ (
  60 ∷ 48 ∷ 62 ∷ [],
  49 ∷ 32 ∷ 45 ∷ 32 ∷ 45 ∷ 32 ∷ 45 ∷ 32 ∷ 45 ∷ 32 ∷ 45 ∷ 32 ∷ [],
  refl,
  (0, (60 ∷ [], 48 ∷ 62 ∷ [], refl, refl, (48 ∷ [], 62 ∷ [], refl, (omega arith, refl), refl))),
  some1,
)

pub IsPrefixFree-header : IsPrefixFree (AnyOf Header)
IsPrefixFree-header =
    IsPrefixFree-same Whole (AnyOf Header) header_whole
    (IsPrefixFree-then (AnyOf Priority) From1 IsPrefixFree-priority
    (IsPrefixFree-then (Spaced Version) From2 IsPrefixFree-version
    (IsPrefixFree-then AnyTime From3 IsPrefixFree-nilable_time
    (IsPrefixFree-then (AnyWord 255) From4 (IsPrefixFree-any_word 255 (omega arith))
    (IsPrefixFree-then (AnyWord 48) From5 (IsPrefixFree-any_word 48 (omega arith))
    (IsPrefixFree-then (AnyWord 128) From6 (IsPrefixFree-any_word 128 (omega arith))
    (IsPrefixFree-any_word 32 (omega arith))))))))

at0 : (b : List ℕ) → Behind (AnyOf Header) b Whole b
at0 b remaining f = Fails-same Whole (AnyOf Header) b remaining whole_header header_whole f

at1 : (b r1 : List ℕ) (v : ℕ) → Follows (Priority v) b r1 → Behind (AnyOf Header) b From1 r1
at1 b r1 v h0 = further (AnyOf Header) (AnyOf Priority) From1 b b r1 IsPrefixFree-priority (at0 b)
    (some_value Priority v b r1 h0)

at2 : (b r1 r2 : List ℕ) (v : ℕ) → Follows (Priority v) b r1 → Follows (Spaced Version) r1 r2
    → Behind (AnyOf Header) b From2 r2
at2 b r1 r2 v h0 h1 = further (AnyOf Header) (Spaced Version) From2 b r1 r2 IsPrefixFree-version (at1 b r1 v h0) h1

abbrev OneTime : Option CivilTime → Language
OneTime t = Spaced (Nilable TimeText t)

abbrev OneWord : ℕ → Option (List ℕ) → Language
OneWord n w = Spaced (Nilable (Word n) w)

at3 : (b r1 r2 r3 : List ℕ) (v : ℕ) (t : Option CivilTime) → Follows (Priority v) b r1 → Follows (Spaced Version) r1 r2
    → Follows (OneTime t) r2 r3 → Behind (AnyOf Header) b From3 r3
at3 b r1 r2 r3 v t h0 h1 h2 = further (AnyOf Header) AnyTime From3 b r2 r3 IsPrefixFree-nilable_time
    (at2 b r1 r2 v h0 h1) (some_value OneTime t r2 r3 h2)

at4 : (b r1 r2 r3 r4 : List ℕ) (v : ℕ) (t : Option CivilTime) (w3 : Option (List ℕ)) → Follows (Priority v) b r1
    → Follows (Spaced Version) r1 r2 → Follows (OneTime t) r2 r3 → Follows (OneWord 255 w3) r3 r4
    → Behind (AnyOf Header) b From4 r4
at4 b r1 r2 r3 r4 v t w3 h0 h1 h2 h3 = further (AnyOf Header) (AnyWord 255) From4 b r3 r4
    (IsPrefixFree-any_word 255 (omega arith)) (at3 b r1 r2 r3 v t h0 h1 h2) (some_value (OneWord 255) w3 r3 r4 h3)

at5 : (b r1 r2 r3 r4 r5 : List ℕ) (v : ℕ) (t : Option CivilTime) (w3 w4 : Option (List ℕ)) → Follows (Priority v) b r1
    → Follows (Spaced Version) r1 r2 → Follows (OneTime t) r2 r3 → Follows (OneWord 255 w3) r3 r4
    → Follows (OneWord 48 w4) r4 r5 → Behind (AnyOf Header) b From5 r5
at5 b r1 r2 r3 r4 r5 v t w3 w4 h0 h1 h2 h3 h4 =
    further (AnyOf Header) (AnyWord 48) From5 b r4 r5 (IsPrefixFree-any_word 48 (omega arith))
    (at4 b r1 r2 r3 r4 v t w3 h0 h1 h2 h3) (some_value (OneWord 48) w4 r4 r5 h4)

at6 : (b r1 r2 r3 r4 r5 r6 : List ℕ) (v : ℕ) (t : Option CivilTime) (w3 w4 w5 : Option (List ℕ))
    → Follows (Priority v) b r1 → Follows (Spaced Version) r1 r2 → Follows (OneTime t) r2 r3
    → Follows (OneWord 255 w3) r3 r4 → Follows (OneWord 48 w4) r4 r5 → Follows (OneWord 128 w5) r5 r6
    → Behind (AnyOf Header) b From6 r6
at6 b r1 r2 r3 r4 r5 r6 v t w3 w4 w5 h0 h1 h2 h3 h4 h5 =
    further (AnyOf Header) (AnyWord 128) From6 b r5 r6 (IsPrefixFree-any_word 128 (omega arith))
    (at5 b r1 r2 r3 r4 r5 v t w3 w4 h0 h1 h2 h3 h4) (some_value (OneWord 128) w5 r5 r6 h5)

pub bad_priority : (b : List ℕ) (remaining : ℕ) → Fails (AnyOf Priority) b remaining → Fails (AnyOf Header) b remaining
bad_priority b remaining f = fails_here (AnyOf Header) (AnyOf Priority) From1 b b _ remaining some1 (at0 b) f

pub bad_version : (b r1 : List ℕ) (v : ℕ) (remaining : ℕ) → Follows (Priority v) b r1
    → Fails (Spaced Version) r1 remaining → Fails (AnyOf Header) b remaining
bad_version b r1 v remaining h0 f = fails_here (AnyOf Header) (Spaced Version) From2 b r1 _ remaining some2
    (at1 b r1 v h0) f

pub bad_time : (b r1 r2 : List ℕ) (v : ℕ) (remaining : ℕ) → Follows (Priority v) b r1 → Follows (Spaced Version) r1 r2
    → Fails AnyTime r2 remaining → Fails (AnyOf Header) b remaining
bad_time b r1 r2 v remaining h0 h1 f = fails_here (AnyOf Header) AnyTime From3 b r2 _ remaining some3
    (at2 b r1 r2 v h0 h1) f

pub bad_hostname : (b r1 r2 r3 : List ℕ) (v : ℕ) (t : Option CivilTime) (remaining : ℕ) → Follows (Priority v) b r1
    → Follows (Spaced Version) r1 r2 → Follows (OneTime t) r2 r3 → Fails (AnyWord 255) r3 remaining
    → Fails (AnyOf Header) b remaining
bad_hostname b r1 r2 r3 v t remaining h0 h1 h2 f =
    fails_here (AnyOf Header) (AnyWord 255) From4 b r3 _ remaining some4 (at3 b r1 r2 r3 v t h0 h1 h2) f

pub bad_app_name : (b r1 r2 r3 r4 : List ℕ) (v : ℕ) (t : Option CivilTime) (w3 : Option (List ℕ)) (remaining : ℕ)
    → Follows (Priority v) b r1 → Follows (Spaced Version) r1 r2 → Follows (OneTime t) r2 r3
    → Follows (OneWord 255 w3) r3 r4 → Fails (AnyWord 48) r4 remaining → Fails (AnyOf Header) b remaining
bad_app_name b r1 r2 r3 r4 v t w3 remaining h0 h1 h2 h3 f =
    fails_here (AnyOf Header) (AnyWord 48) From5 b r4 _ remaining some5 (at4 b r1 r2 r3 r4 v t w3 h0 h1 h2 h3) f

pub bad_proc_id : (b r1 r2 r3 r4 r5 : List ℕ) (v : ℕ) (t : Option CivilTime) (w3 w4 : Option (List ℕ)) (remaining : ℕ)
    → Follows (Priority v) b r1 → Follows (Spaced Version) r1 r2 → Follows (OneTime t) r2 r3
    → Follows (OneWord 255 w3) r3 r4 → Follows (OneWord 48 w4) r4 r5 → Fails (AnyWord 128) r5 remaining
    → Fails (AnyOf Header) b remaining
bad_proc_id b r1 r2 r3 r4 r5 v t w3 w4 remaining h0 h1 h2 h3 h4 f =
    fails_here (AnyOf Header) (AnyWord 128) From6 b r5 _ remaining some6 (at5 b r1 r2 r3 r4 r5 v t w3 w4 h0 h1 h2 h3 h4)
    f

pub bad_msg_id : (b r1 r2 r3 r4 r5 r6 : List ℕ) (v : ℕ) (t : Option CivilTime) (w3 w4 w5 : Option (List ℕ))
    (remaining : ℕ) → Follows (Priority v) b r1 → Follows (Spaced Version) r1 r2 → Follows (OneTime t) r2 r3
    → Follows (OneWord 255 w3) r3 r4 → Follows (OneWord 48 w4) r4 r5 → Follows (OneWord 128 w5) r5 r6
    → Fails (AnyWord 32) r6 remaining → Fails (AnyOf Header) b remaining
bad_msg_id b r1 r2 r3 r4 r5 r6 v t w3 w4 w5 remaining h0 h1 h2 h3 h4 h5 f =
    at6 b r1 r2 r3 r4 r5 r6 v t w3 w4 w5 h0 h1 h2 h3 h4 h5 remaining f

pub header_read : (b r1 r2 r3 r4 r5 r6 r7 : List ℕ) (h : HeaderParts) → Follows (Priority h.priority) b r1
    → Follows (Spaced Version) r1 r2 → Follows (OneTime h.time) r2 r3 → Follows (OneWord 255 h.hostname) r3 r4
    → Follows (OneWord 48 h.app_name) r4 r5 → Follows (OneWord 128 h.proc_id) r5 r6
    → Follows (OneWord 32 h.msg_id) r6 r7 → Follows (Header h) b r7
unfolding Header
header_read b r1 r2 r3 r4 r5 r6 r7 h h0 h1 h2 h3 h4 h5 h6 =
    Follows-then (Priority h.priority) _ b r1 r7 h0
    (Follows-then (Spaced Version) _ r1 r2 r7 h1
    (Follows-then (OneTime h.time) _ r2 r3 r7 h2
    (Follows-then (OneWord 255 h.hostname) _ r3 r4 r7 h3
    (Follows-then (OneWord 48 h.app_name) _ r4 r5 r7 h4
    (Follows-then (OneWord 128 h.proc_id) (OneWord 32 h.msg_id) r5 r6 r7 h5 h6)))))

-- the words and their spaces
pub words_read : (r3 r4 r5 r6 r7 : List ℕ) (h : HeaderParts) → Follows (OneWord 255 h.hostname) r3 r4
    → Follows (OneWord 48 h.app_name) r4 r5 → Follows (OneWord 128 h.proc_id) r5 r6
    → Follows (OneWord 32 h.msg_id) r6 r7 → Follows (words_of h) r3 r7
words_read r3 r4 r5 r6 r7 h h3 h4 h5 h6 =
    Follows-then (OneWord 255 h.hostname) _ r3 r4 r7 h3
    (Follows-then (OneWord 48 h.app_name) _ r4 r5 r7 h4
    (Follows-then (OneWord 128 h.proc_id) (OneWord 32 h.msg_id) r5 r6 r7 h5 h6))

pub time_stands : (b r1 r2 : List ℕ) (v : ℕ) → Follows (Priority v) b r1 → Follows (Spaced Version) r1 r2
    → Follows (AnyOf Priority ⋅ Spaced Version) b r2
time_stands b r1 r2 v h0 h1 = Follows-then (AnyOf Priority) (Spaced Version) b r1 r2 (some_value Priority v b r1 h0) h1

-- what comes before the words
pub before_read : (b b1 b2 rest : List ℕ) (h : HeaderParts) → Follows (Priority h.priority) b b1
    → Follows (Spaced Version) b1 b2 → Follows (Spaced (Nilable TimeText h.time)) b2 rest
    → Follows (before_words h) b rest
before_read b b1 b2 rest h p v t =
    Follows-then (Priority h.priority) (Spaced Version ⋅ Spaced (Nilable TimeText h.time)) b b1 rest p
    (Follows-then (Spaced Version) (Spaced (Nilable TimeText h.time)) b1 b2 rest v t)

abbrev pub Prefix : Language
Prefix = AnyOf Priority ⋅ Spaced Version

pub IsPrefixFree-prefix : (p s q t : List ℕ) → Prefix p → Prefix q → p ++ s ≡ q ++ t → p ≡ q
IsPrefixFree-prefix = IsPrefixFree-then (AnyOf Priority) (Spaced Version) IsPrefixFree-priority IsPrefixFree-version

-- what follows PRI and VERSION, by its length
pub stands_at : (b from : List ℕ) (remaining : ℕ) (t : TimeStands b remaining) → from ≡ drop (length b - remaining) b
    → from ≡ t.0
stands_at b from remaining (rest, (t, e, h), n) f =
    let count : length b - remaining ≡ length t = omega (arith, ap length e, length-append t rest, n) in
    f ∙ ap (λ (k : ℕ). drop k b) count ∙ ap (drop (length t)) e ∙ drop-append_seam t rest

-- PRI and VERSION of a record, the timestamp, and what follows it
pub time_follows : (b from : List ℕ) (s : Parsed) → IsParsed b s → from ≡ drop (length b - s.fields.time_remaining) b
    → Follows (Spaced (Nilable TimeText (option_map time_of s.fields.time))) from s.fields.behind_time.now
time_follows b from s k e =
    let (x, whole, (p, y, f, pri, (v, d, g, version, time))) = k.behind in
    let behind = s.fields.behind_time.now in
    let parted : b ≡ (p ++ v) ++ (d ++ behind) =
    whole ∙ ap (λ (u : List ℕ). u ++ behind) (f ∙ ap (λ (u : List ℕ). p ++ u) g ∙ sym (append_assoc p v d))
    ∙ append_assoc (p ++ v) d behind in
    let both = by_prefix Prefix k.time.1.0 k.time.0 (p ++ v) (d ++ behind) IsPrefixFree-prefix k.time.1.2
    (p, v, refl, ((header_parts s.fields).priority, pri), version) (sym k.time.1.1 ∙ parted) in
    (d, stands_at b from s.fields.time_remaining k.time e ∙ both.1, time)
