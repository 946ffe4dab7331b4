-- What is spelled is valid.
use Rattle.std.proofs.Common.{ℕ, ◌≤◌, List, [], ◌∷◌, refl, sym, subst, arith, inl, inr}
use Rattle.std.specs.Prelude.{ℤ, Option, Some, None, IfSome, IsUtf8, option_map}
use Rattle.std.specs.List.{AllByRecursion, flat_map}
use Rattle.std.proofs.lemmas.Str.{IsUtf8-append, IsUtf8-nil}
use Rattle.octet_language.specs.Language.{Each}
use Rattle.syslog_value.specs.Parts.{ParamParts, ElementParts, MessageParts, AnyOctets, Utf8Text, Parts, IsWord}
use Rattle.syslog_value.specs.Parts.{IsParam, IsElement, IsMessage, IsInstant, IsRecord}
use Rattle.syslog_fields.specs.Grammar.{HeaderParts, Header, header_of, Nilable, Word, Spaced, Param, Element}
use Rattle.syslog_fields.specs.Grammar.{StructuredDataText, Message, MessagePart, SyslogMsg}
use Rattle.syslog_fields.specs.Time.{CivilTime, instant}
use Rattle.syslog_fields.specs.Values.{IsSpecial, Piece, Spells}
use Rattle.syslog_fields.proofs.Utf8Text.{IsUtf8-character, IsUtf8-text}
use Rattle.syslog_fields.proofs.Values.{ascii}
use Rattle.syslog_reading.specs.Faults.{IsInRange}
use Rattle.syslog_reading.specs.WellFormed.{HasRecordParts, WellFormed}
use Rattle.syslog_reading.proofs.ById.{all_permuted}
use Rattle.syslog_reading.proofs.Viewing.{header_priority}

-- ---- the structured data

special_utf8 : (x : ℕ) → IsSpecial x → IsUtf8 (x ∷ [])
special_utf8 x (inl e) = rw e (IsUtf8-character (34 ∷ []) (ascii 34 (omega arith)))
special_utf8 x (inr (inl e)) = rw e (IsUtf8-character (92 ∷ []) (ascii 92 (omega arith)))
special_utf8 x (inr (inr e)) = rw e (IsUtf8-character (93 ∷ []) (ascii 93 (omega arith)))

piece_utf8 : (m b : List ℕ) → Piece m b → IsUtf8 m
piece_utf8 m b (inl (x, k, e, f)) = subst IsUtf8 (sym e) (special_utf8 x k)
piece_utf8 m b (inr (inl (c, k, e, f))) = subst IsUtf8 (sym e)
    (IsUtf8-append (92 ∷ []) c (special_utf8 92 (inr (inl refl))) (IsUtf8-character c k.0))
piece_utf8 m b (inr (inr (k, f))) = IsUtf8-character m k.0

pieces_utf8 : (ms : List (List ℕ)) (b : List ℕ) → Each Piece ms b → IsUtf8 (flat_map (λ m. m) ms)
pieces_utf8 [] b h = IsUtf8-nil
pieces_utf8 (m ∷ ms) b (x, y, e, h, k) = IsUtf8-append m (flat_map (λ u. u) ms) (piece_utf8 m x h) (pieces_utf8 ms y k)

pub valid_value : (text raw : List ℕ) → Spells text raw → IsUtf8 text
valid_value text raw (ms, e, h) = subst IsUtf8 (sym e) (pieces_utf8 ms raw h)

pub valid_param : (p : ParamParts) (b : List ℕ) → Param p b → IsParam p
valid_param p b (x, y, e, h, (z, w, g, (n, k), (u, v, f, l, (q, r, i, m, o)))) = (n, valid_value p.value q m)

valid_params : (ps : List ParamParts) (b : List ℕ) → Each Param ps b → AllByRecursion IsParam ps
valid_params [] b h = tt
valid_params (p ∷ ps) b (x, y, e, h, k) = (valid_param p x h, valid_params ps y k)

pub valid_element : (e : ElementParts) (b : List ℕ) → Element e b → IsElement e
valid_element d b (x, y, e, h, (z, w, g, (n, k), (u, v, f, l, m))) = (n, valid_params d.params u l)

valid_elements : (es : List ElementParts) (b : List ℕ) → Each Element es b → AllByRecursion IsElement es
valid_elements [] b h = tt
valid_elements (e ∷ es) b (x, y, f, h, k) = (valid_element e x h, valid_elements es y k)

valid_data : (es : List ElementParts) (b : List ℕ) → StructuredDataText es b → AllByRecursion IsElement es
valid_data [] b h = tt
valid_data (e ∷ es) b h = valid_elements (e ∷ es) b h

-- ---- the header

valid_word : (n : ℕ) (w : Option (List ℕ)) (b : List ℕ) → Spaced (Nilable (Word n) w) b → IfSome w (IsWord n)
valid_word n None b h = tt
valid_word n (Some w) b (x, y, e, h, k) = h.0

-- the words of a header
record Words (h : HeaderParts) : Type 0 where
  pub hostname : IfSome h.hostname (IsWord 255)
  pub app_name : IfSome h.app_name (IsWord 48)
  pub proc_id : IfSome h.proc_id (IsWord 128)
  pub msg_id : IfSome h.msg_id (IsWord 32)

words : (h : HeaderParts) (b : List ℕ) → Header h b → Words h
unfolding Header
words h b (
  x0,
  y0,
  e0,
  h0,
  (
    x1,
    y1,
    e1,
    h1,
    (x2, y2, e2, h2, (x3, y3, e3, h3, (x4, y4, e4, h4, (x5, y5, e5, h5, h6)))),
  ),
) = record {
  hostname = valid_word 255 h.hostname x3 h3;
  app_name = valid_word 48 h.app_name x4 h4;
  proc_id = valid_word 128 h.proc_id x5 h5;
  msg_id = valid_word 32 h.msg_id y5 h6;
}

-- ---- the message

pub valid_message : (m : MessageParts) (b : List ℕ) → Message m b → IsMessage m
valid_message (AnyOctets octets) b h = (h.0, h.1)
valid_message (Utf8Text text) b h = IsUtf8-text text h.0

valid_tail : (m : MessageParts) (b : List ℕ) → MessagePart m b → IsMessage m
valid_tail m b (inl (e, f)) = subst IsMessage (sym e) (tt, λ k. absurd cc)
valid_tail m b (inr (x, y, e, h, k)) = valid_message m y k

-- ---- the record

valid_time : (t : Option CivilTime) → IfSome t (λ c. IsInstant (instant c)) → IfSome (option_map instant t) IsInstant
valid_time None h = tt
valid_time (Some c) h = h

-- the parts with the instant of their time
abbrev pub at_instant : Parts CivilTime → Parts ℤ
at_instant p = record {
  priority = p.priority;
  time = option_map instant p.time;
  hostname = p.hostname;
  app_name =
      p.app_name;
  proc_id = p.proc_id;
  msg_id = p.msg_id;
  elements = p.elements;
  message = p.message;
}

-- what octets spell has the parts of a record
pub parsed_valid : (p : Parts CivilTime) (b : List ℕ) → SyslogMsg p b → IsInRange p → HasRecordParts (at_instant p)
parsed_valid p b (x, y, e, h, (d, t, f, k, l)) in_range =
    let w = words (header_of p) x h in
    record {
      priority = header_priority (header_of p) x h;
      time = valid_time p.time in_range;
      hostname = w.hostname;
      app_name = w.app_name;
      proc_id = w.proc_id;
      msg_id = w.msg_id;
      elements = valid_data p.elements d k;
      message = valid_tail p.message t l;
    }

-- what octets are is a record
pub well_formed_valid : (r : Parts ℤ) (b : List ℕ) → WellFormed r b → IsRecord r
well_formed_valid r b (p, (x, y, e, h, (d, t, f, k, l)), in_range, distinct, m) =
    let w = words (header_of p) x h in
    record {
      priority = subst (λ (n : ℕ). n ≤ 191) (sym m.priority) (header_priority (header_of p) x h);
      time = subst (λ (i : Option ℤ). IfSome i IsInstant) (sym m.time) (valid_time p.time in_range);
      hostname = subst (λ (o : Option (List ℕ)). IfSome o (IsWord 255)) (sym m.hostname) w.hostname;
      app_name = subst (λ (o : Option (List ℕ)). IfSome o (IsWord 48)) (sym m.app_name) w.app_name;
      proc_id = subst (λ (o : Option (List ℕ)). IfSome o (IsWord 128)) (sym m.proc_id) w.proc_id;
      msg_id = subst (λ (o : Option (List ℕ)). IfSome o (IsWord 32)) (sym m.msg_id) w.msg_id;
      elements = all_permuted IsElement p.elements r.elements m.elements (valid_data p.elements d k);
      by_id = m.by_id;
      message = subst IsMessage (sym m.message) (valid_tail p.message t l);
    }
