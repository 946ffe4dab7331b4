-- One text is at most one record.
use Rattle.std.proofs.Common.{◌≡◌, ℕ, List, sym, subst, ◌∙◌, arith}
use Rattle.std.specs.Prelude.{ℤ, Option, option_map}
use Rattle.std.specs.List.Sorted.{IsPermutation}
use Rattle.octet_language.specs.Language.{Language, AnyOf}
use Rattle.syslog_value.specs.Parts.{Parts, ElementParts}
use Rattle.syslog_fields.specs.Grammar.{HeaderParts, Header, header_of, Priority, Version, Spaced, Nilable, Word}
use Rattle.syslog_fields.specs.Grammar.{MessagePart, SyslogMsg}
use Rattle.syslog_fields.specs.Time.{CivilTime, TimeText, instant}
use Rattle.syslog_fields.proofs.Fractions.{AnyTime, IsPrefixFree-nilable_time}
use Rattle.syslog_fields.proofs.Numbers.{IsPrefixFree-priority, IsPrefixFree-version}
use Rattle.syslog_fields.proofs.Words.{IsPrefixFree-any_word}
use Rattle.syslog_reading.specs.WellFormed.{WellFormed, IsMeaning}
use Rattle.syslog_reading.proofs.ById.{one_order}
use Rattle.syslog_reading.proofs.Headers.{IsPrefixFree-header}
use Rattle.syslog_reading.proofs.OneMeaning.{by_prefix, spaced, priority_same, nilable_time_same, word_same, data_same}
use Rattle.syslog_reading.proofs.OneMeaning.{tail_same, tail_prefix}
use Rattle.syslog_value.specs.EqualityLaws.{same_record}

-- the fields of two headers mean the same
pub record SameHeader (h g : HeaderParts) : Type 0 where
  pub priority : h.priority ≡ g.priority
  pub time : option_map instant h.time ≡ option_map instant g.time
  pub hostname : h.hostname ≡ g.hostname
  pub app_name : h.app_name ≡ g.app_name
  pub proc_id : h.proc_id ≡ g.proc_id
  pub msg_id : h.msg_id ≡ g.msg_id

abbrev OneWord : ℕ → Option (List ℕ) → Language
OneWord n w = Spaced (Nilable (Word n) w)

one_word : (n : ℕ) (v w : Option (List ℕ)) (b : List ℕ) → OneWord n v b → OneWord n w b → v ≡ w
one_word n v w b h k = let s = spaced (Nilable (Word n)) v w b h k in word_same n v w s.0 s.1 s.2

pub header_same : (h g : HeaderParts) (b : List ℕ) → Header h b → Header g b → SameHeader h g
unfolding Header
header_same h g b (
  x0,
  y0,
  e0,
  h0,
  (
    x1,
    y1,
    e1,
    h1,
    (x2, y2, e2, h2, (x3, y3, e3, h3, (x4, y4, e4, h4, (x5, y5, e5, h5, h6)))),
  ),
)
    (u0, v0, f0, g0, (u1, v1, f1, g1, (u2, v2, f2, g2, (u3, v3, f3, g3, (u4, v4, f4, g4, (u5, v5, f5, g5, g6)))))) =
    let s0 = by_prefix (AnyOf Priority) x0 y0 u0 v0 IsPrefixFree-priority (h.priority, h0) (g.priority, g0)
    (sym e0 ∙ f0) in
    let s1 = by_prefix (Spaced Version) x1 y1 u1 v1 IsPrefixFree-version h1 g1 (sym e1 ∙ s0.1 ∙ f1) in
    let s2 = by_prefix AnyTime x2 y2 u2 v2 IsPrefixFree-nilable_time (h.time, h2) (g.time, g2) (sym e2 ∙ s1.1 ∙ f2) in
    let s3 = by_prefix (AnyOf (OneWord 255)) x3 y3 u3 v3 (IsPrefixFree-any_word 255 (omega arith)) (h.hostname, h3)
    (g.hostname, g3) (sym e3 ∙ s2.1 ∙ f3) in
    let s4 = by_prefix (AnyOf (OneWord 48)) x4 y4 u4 v4 (IsPrefixFree-any_word 48 (omega arith)) (h.app_name, h4)
    (g.app_name, g4) (sym e4 ∙ s3.1 ∙ f4) in
    let s5 = by_prefix (AnyOf (OneWord 128)) x5 y5 u5 v5 (IsPrefixFree-any_word 128 (omega arith)) (h.proc_id, h5)
    (g.proc_id, g5) (sym e5 ∙ s4.1 ∙ f5) in
    let time = spaced (Nilable TimeText) h.time g.time u2 (subst (Spaced (Nilable TimeText h.time)) s2.0 h2) g2 in
    record {
      priority = priority_same h.priority g.priority u0 (subst (Priority h.priority) s0.0 h0) g0;
      time = nilable_time_same h.time g.time time.0 time.1 time.2;
      hostname = one_word 255 h.hostname g.hostname u3 (subst (OneWord 255 h.hostname) s3.0 h3) g3;
      app_name = one_word 48 h.app_name g.app_name u4 (subst (OneWord 48 h.app_name) s4.0 h4) g4;
      proc_id = one_word 128 h.proc_id g.proc_id u5 (subst (OneWord 128 h.proc_id) s5.0 h5) g5;
      msg_id = one_word 32 h.msg_id g.msg_id v5 (subst (OneWord 32 h.msg_id) s5.1 h6) g6;
    }

-- the elements of one text, and what follows of the parts
meant : (p s : Parts CivilTime) (r q : Parts ℤ) → SameHeader (header_of p) (header_of s) → p.elements ≡ s.elements
    → p.message ≡ s.message → IsMeaning p r → IsMeaning s q → r ≡ q
meant p s r q same elements message m n =
    same_record r q (m.priority ∙ same.priority ∙ sym n.priority) (m.time ∙ same.time ∙ sym n.time)
    (m.hostname ∙ same.hostname ∙ sym n.hostname) (m.app_name ∙ same.app_name ∙ sym n.app_name)
    (m.proc_id ∙ same.proc_id ∙ sym n.proc_id) (m.msg_id ∙ same.msg_id ∙ sym n.msg_id)
    (one_order s.elements r.elements q.elements
    (subst (λ (es : List ElementParts). IsPermutation es r.elements) elements m.elements) n.elements m.by_id
    n.by_id)
    (m.message ∙ message ∙ sym n.message)

-- two parts that one text spells mean the same
pub record SameParts (p s : Parts CivilTime) : Type 0 where
  pub header : SameHeader (header_of p) (header_of s)
  pub elements : p.elements ≡ s.elements
  pub message : p.message ≡ s.message

pub same_parts : (p s : Parts CivilTime) (b : List ℕ) → SyslogMsg p b → SyslogMsg s b → SameParts p s
same_parts p s b (x, y, e, h, (d, t, f, k, l)) (u, v, g, i, (c, a, j, n, o)) =
    let headers = by_prefix (AnyOf Header) x y u v IsPrefixFree-header (header_of p, h) (header_of s, i) (sym e ∙ g) in
    let elements = data_same p.elements s.elements d t c a k n (tail_prefix p.message t l) (tail_prefix s.message a o)
    (sym f ∙ headers.1 ∙ j) in
    record {
      header = header_same (header_of p) (header_of s) u (subst (Header (header_of p)) headers.0 h) i;
      elements = elements.0;
      message = tail_same p.message s.message a (subst (λ (z : List ℕ). MessagePart p.message z) elements.1 l) o;
    }

-- octets are one record at most
pub one_meaning : (r q : Parts ℤ) (b : List ℕ) → WellFormed r b → WellFormed q b → r ≡ q
one_meaning r q b (p, h, in_range, distinct, m) (s, k, in_range', distinct', w) =
    let same = same_parts p s b h k in
    meant p s r q same.header same.elements same.message m w
