-- Whole records: what each failing part says of the octets, with the field.
use Rattle.std.proofs.Common.{◌≡◌, ℕ, suc, ◌+◌, ◌-◌, ◌≤◌, List, [], ◌∷◌, ◌++◌, length, take, drop, refl, sym, ap, subst}
use Rattle.std.proofs.Common.{◌∙◌, append_assoc, arith, inl, inr}
use Rattle.std.proofs.lemmas.List.{length-append, take-append-drop}
use Rattle.octet_language.specs.Language.{Language, Only, ◌⋅◌, AnyOf, Begins, Refuses, NoPrefix, IsFaultOffset}
use Rattle.octet_language.specs.Reading.{Fails, Follows, Misses}
use Rattle.octet_language.proofs.Lists.{heads, tails}
use Rattle.octet_language.proofs.Sequence.{NoPrefix-later}
use Rattle.octet_language.proofs.Whole.{Misses-offset, Misses-field, Misses-behind}
use Rattle.syslog_value.specs.Parts.{AnyOctets}
use Rattle.syslog_reading.specs.declared.fault.Field.TheVariants as field
use Rattle.syslog_fields.specs.Grammar.{HeaderParts, Header, header_of, StructuredDataText, MessagePart, SyslogMsg}
use Rattle.syslog_fields.specs.Spans.{EndsStructuredData, StopsInStructuredData}
use Rattle.syslog_fields.proofs.Messages.{Misses-same, empty_message}
use Rattle.syslog_reading.specs.Faults.{HoldsStructuredData, EndsIn, FaultOf}
use Rattle.syslog_reading.specs.Parsing.{IsCounted, IsSyntaxAt, IsFaultBehind, IsSyntaxFault}
use Rattle.syslog_reading.specs.declared.fault.Field.{Field}
use Rattle.syslog_reading.specs.declared.fault.Fault.{Fault}
use Rattle.syslog_reading.specs.declared.fault.Fault.TheVariants.{Syntax, InstantRange, RepeatedId}
use Rattle.syslog_reading.proofs.Headers.{IsPrefixFree-header}
use Rattle.syslog_reading.proofs.DataTexts.{data_misses, data_text, no_space}

abbrev Body : Language
Body = AnyOf StructuredDataText ⋅ AnyOf MessagePart

abbrev Whole : Language
Whole = AnyOf Header ⋅ Body

whole_parsed : (s : List ℕ) → Whole s → AnyOf SyslogMsg s
whole_parsed s (x, y, e, (h, k), (z, w, f, (es, l), (m, t))) = (
  record {
    priority = h.priority;
    time = h.time;
    hostname = h.hostname;
    app_name = h.app_name;
    proc_id =
        h.proc_id;
    msg_id = h.msg_id;
    elements = es;
    message = m;
  },
  (x, y, e, k, (z, w, f, l, t)),
)

parsed_whole : (s : List ℕ) → AnyOf SyslogMsg s → Whole s
parsed_whole s (p, (x, y, e, h, (z, w, f, l, t))) =
    (x, y, e, (header_of p, h), (z, w, f, (p.elements, l), (p.message, t)))

as_parsed : (b : List ℕ) (remaining : ℕ) → Misses Whole b remaining → Misses (AnyOf SyslogMsg) b remaining
as_parsed b remaining m = Misses-same Whole (AnyOf SyslogMsg) b remaining whole_parsed parsed_whole m

-- ---- the field

prefix_holds : (n : ℕ) (b : List ℕ) → HoldsStructuredData (take n b) → HoldsStructuredData b
prefix_holds n b (x, y, e, h) = (
  x,
  y ++ drop n b,
  sym (take-append-drop n b) ∙ ap (λ (s : List ℕ). s ++ drop n b) e
      ∙ append_assoc x y (drop n b),
  h,
)

counted_ends : (prefix : List ℕ) (f : Field) → ¬ (HoldsStructuredData prefix) → IsCounted prefix f → EndsIn prefix f
counted_ends prefix field.Priority none h = h
counted_ends prefix field.Version none h = h
counted_ends prefix field.Timestamp none h = h
counted_ends prefix field.Hostname none h = h
counted_ends prefix field.AppName none h = h
counted_ends prefix field.ProcId none h = h
counted_ends prefix field.MsgId none h = h
counted_ends prefix field.StructuredData none h = (h.0, h.1, none)
counted_ends prefix field.Message none h = absurd h

syntax_at : (b : List ℕ) (remaining : ℕ) (f : Field) (at : ℕ) → Misses (AnyOf SyslogMsg) b remaining
    → at ≡ length b - remaining → EndsIn (take (length b - remaining) b) f → FaultOf b (Syntax f at)
syntax_at b remaining f at m e k =
    let p = Misses-offset (AnyOf SyslogMsg) b remaining m in
    (p.0, subst (IsFaultOffset (AnyOf SyslogMsg) b) (sym e) p.1, subst (λ (n : ℕ). EndsIn (take n b) f) (sym e) k)

pub fault_is : (b : List ℕ) (remaining : ℕ) (fault : Fault) → Misses (AnyOf SyslogMsg) b remaining
    → ¬ (HoldsStructuredData b) → IsSyntaxAt b remaining fault → IsSyntaxFault b fault
fault_is b remaining (Syntax f at) m none (e, h) =
    syntax_at b remaining f at m e (counted_ends (take (length b - remaining) b) f
    (λ k. none (prefix_holds (length b - remaining) b k)) h)
fault_is b remaining (InstantRange at) m none h = h
fault_is b remaining (RepeatedId at) m none h = h

-- ---- the header fails

pub no_header : (b : List ℕ) → NoPrefix (AnyOf Header) b → ¬ (HoldsStructuredData b)
no_header b none (x, y, e, (u, v, f, h, k)) = none u (v ++ y) (e ∙ ap (λ (s : List ℕ). s ++ y) f ∙ append_assoc u v y) h

empty_body : Body (45 ∷ [])
empty_body = (45 ∷ [], [], refl, ([], refl), (AnyOctets [], inl (refl, refl)))

pub header_fails : (b : List ℕ) (remaining : ℕ) (fault : Fault) → Fails (AnyOf Header) b remaining
    → IsSyntaxAt b remaining fault → IsSyntaxFault b fault
header_fails b remaining fault f h = fault_is b remaining fault
    (as_parsed b remaining (Misses-field (AnyOf Header) Body b (45 ∷ []) remaining empty_body f)) (no_header b f.none) h

-- ---- the structured data fails

any_header : (b rest : List ℕ) (h : HeaderParts) → Follows (Header h) b rest → Follows (AnyOf Header) b rest
any_header b rest h (t, e, k) = (t, e, (h, k))

no_data : (b rest : List ℕ) (h : HeaderParts) → Follows (Header h) b rest
    → NoPrefix (AnyOf StructuredDataText ⋅ Only (32 ∷ [])) rest → ¬ (HoldsStructuredData b)
no_data b rest h (t, e, k) none (x, y, d, l) =
    NoPrefix-later (AnyOf Header) (AnyOf StructuredDataText ⋅ Only (32 ∷ [])) b t rest IsPrefixFree-header (h, k) e none
    x y d l

pub data_fails : (b rest : List ℕ) (h : HeaderParts) (remaining : ℕ) (fault : Fault) → Follows (Header h) b rest
    → StopsInStructuredData rest remaining → IsSyntaxAt b remaining fault → IsSyntaxFault b fault
data_fails b rest h remaining fault f s k =
    fault_is b remaining fault (as_parsed b remaining
    (Misses-behind (AnyOf Header) Body b rest remaining IsPrefixFree-header (any_header b rest h f) s.message_part))
    (no_data b rest h f s.space) k

-- ---- the tail fails

take_add : (p rest : List ℕ) (k : ℕ) → take (length p + k) (p ++ rest) ≡ p ++ take k rest
take_add [] rest k = let e : 0 + k ≡ k = omega arith in ap (λ (n : ℕ). take n rest) e
take_add (x ∷ p) rest k =
    let e : suc (length p) + k ≡ suc (length p + k) = omega arith in
    ap (λ (n : ℕ). take n (x ∷ p ++ rest)) e ∙ ap (λ (s : List ℕ). x ∷ s) (take_add p rest k)

-- the offset in a whole lies after the texts that were read
take_offset : (b p rest : List ℕ) (remaining : ℕ) → b ≡ p ++ rest → remaining ≤ length rest
    → take (length b - remaining) b ≡ p ++ take (length rest - remaining) rest
take_offset b p rest remaining e l =
    let n : length b - remaining ≡ length p + (length rest - remaining) =
    omega (arith, ap length e, length-append p rest) in
    rw (n, e) (take_add p rest (length rest - remaining))

space_begins : (m : List ℕ) → Begins (AnyOf MessagePart) (32 ∷ [])
space_begins m = ([], (AnyOctets [], inr (32 ∷ [], [], refl, refl, empty_message)))

-- after a space a tail is not refused before the message
in_message : (rest m : List ℕ) (remaining : ℕ) → rest ≡ 32 ∷ m → Misses (AnyOf MessagePart) rest remaining
    → remaining ≤ length m
in_message rest m remaining e k = go k.stops.read k.stops.rest k.stops.parts k.stops.count k.stops.refuses
  where
    go : (read end : List ℕ) → rest ≡ read ++ end → length end ≡ remaining → Refuses (AnyOf MessagePart) read end
        → remaining ≤ length m
    go [] [] p c r = let i : ◌≡◌ {A = List ℕ} (32 ∷ m) [] = sym e ∙ p in absurd cc
    go [] (x ∷ end) p c r = absurd (r (subst (λ (n : ℕ). Begins (AnyOf MessagePart) (n ∷ []))
        (heads 32 x m end (sym e ∙ p)) (space_begins m)))
    go (x ∷ read) end p c r = omega (
      arith,
      ap length (tails 32 x m (read ++ end) (sym e ∙ p)),
      length-append read end,
      c,
    )

holds_message : (b rest end text m : List ℕ) (h : HeaderParts) (remaining : ℕ) → Follows (Header h) b rest
    → EndsStructuredData rest text end → end ≡ 32 ∷ m → remaining ≤ length m
    → HoldsStructuredData (take (length b - remaining) b)
holds_message b rest end text m h remaining (t, e, k) d f low =
    let prefix = t ++ (text ++ 32 ∷ []) in
    let whole : b ≡ prefix ++ m = e ∙ ap (λ (s : List ℕ). t ++ s)
    (d.0 ∙ ap (λ (s : List ℕ). text ++ s) f ∙ sym (append_assoc text (32 ∷ []) m))
    ∙ sym (append_assoc t (text ++ 32 ∷ []) m) in (
      prefix,
      take (length m - remaining) m,
      take_offset b prefix m remaining whole low,
      (t, text ++ 32 ∷ [], refl, (h, k), (text, 32 ∷ [], refl, data_text rest text end d, refl)),
    )

pub tail_fails : (b rest end text : List ℕ) (h : HeaderParts) (remaining : ℕ) (fault : Fault)
    → Follows (Header h) b rest → EndsStructuredData rest text end → Misses (AnyOf MessagePart) end remaining
    → IsFaultBehind b end remaining fault → IsSyntaxFault b fault
tail_fails b rest end text h remaining (InstantRange at) f d m k = k
tail_fails b rest end text h remaining (RepeatedId at) f d m k = k
tail_fails b rest end text h remaining (Syntax g at) f d m (e, k) =
    let miss = as_parsed b remaining (Misses-behind (AnyOf Header) Body b rest remaining IsPrefixFree-header
    (any_header b rest h f) (data_misses rest text end remaining d m)) in
    elim k [
      | inl (i, s, j) ↦ syntax_at b remaining g at miss e
          (subst (EndsIn (take (length b - remaining) b)) (sym i)
          (holds_message b rest end text s h remaining f d j (in_message end s remaining j m)))
      | inr (n, c) ↦ fault_is b remaining (Syntax g at) miss (no_data b rest h f (no_space rest text end d n)) (e, c)
    ]
