-- The line of a record, from the text of its parts.
use Rattle.std.proofs.Common.{◌≡◌, ℕ, true, false, List, [], ◌∷◌, ◌++◌, refl, sym, ap, subst, ap₂, ◌∙◌, append_assoc, inl, inr}
use Rattle.std.specs.Prelude.{ℤ, Option, Some, None, Result, Ok, Err, OnErr, OnOk, codes, is_err, option_map}
use Rattle.std.proofs.lemmas.List.Sorted.{IsPermutation-refl}
use Rattle.base64.specs.Engines.{standard}
use Rattle.base64.specs.GeneralPurpose.{encode_of}
use Rattle.json.specs.Json.{Json, boolean, null, string, Members, no_members, member}
use Rattle.json.specs.Print.{escape, escape_byte, quoted}
use Rattle.octet_language.specs.Language.{AnyOf, Language, Only, ◌⋅◌}
use Rattle.syslog_value.specs.Parts.{AnyOctets, ElementParts, IsById, IsRecord, MessageParts, Parts, Utf8Text}
use Rattle.syslog_fields.specs.Appending.{Adds, Puts}
use Rattle.syslog_fields.specs.Canonical.{Canonical}
use Rattle.syslog_fields.specs.Grammar.{StructuredDataText}
use Rattle.syslog_fields.proofs.Appends.{puts_as, puts_then}
use Rattle.syslog_reading.specs.ShownParts.{IsViewOf, ViewParts}
use Rattle.syslog_reading.specs.Views.{message_parts}
use Rattle.syslog_reading.specs.WellFormed.{AddsCanonical, IsMeaning, WellFormed}
use Rattle.syslog_reading.proofs.Laws.{same_parts}
use Rattle.syslog_reading.proofs.Valid.{well_formed_valid}
use Rattle.syslog_grammar.specs.ShownRecords.{AddsShown}
use Rattle.syslog_grammar.proofs.CanonicalParses.{canonical_spelled, canonical_well_formed, record_parts, timed}
use Rattle.record_json.specs.Objects.{AreMessageJson, IsTimeJson, JsonLine, object_of}
use Rattle.record_json.specs.Texts.{AddsLine, DataMember, DataOf, LentLine, MessageText, PriorityText, ShownLine, TimeText}
use Rattle.record_json.specs.Texts.{elements_text, key_text, priority_text, record_of, shown_record, words_text}
use Rattle.record_json.specs.declared.line.LentParts.{LentParts}
use Rattle.record_json.proofs.Printing.{member_more, members_none, members_text, named, null_value, object_value}
use Rattle.record_json.proofs.Printing.{string_value, true_value, value_text}

-- ---- fields whose text is one of several

time_value : (i : Option ℤ) (b : List ℕ) → TimeText i b
    → (time : Json) × IsTimeJson i time × (b ≡ key_text (codes "time") ++ value_text time)
time_value None b h = (null, refl, h ∙ ap (λ (u : List ℕ). key_text (codes "time") ++ u) (sym null_value))
time_value (Some i) b (t, form, e) =
    (string t, (t, form, refl), e ∙ ap (λ (u : List ℕ). key_text (codes "time") ++ u) (sym (string_value t)))

-- the last member is a string
pub last_text : (k n s : List ℕ) → named k ≡ n → members_text true (member k (string s) no_members) ≡ n ++ (quoted s ++ 125 ∷ [])
last_text k n s e = member_more k n (string s) (quoted s) no_members (125 ∷ []) e (string_value s) (members_none true)

ended : (n s : List ℕ) → (n ++ (s ++ 125 ∷ [])) ++ 10 ∷ [] ≡ (n ++ s) ++ 125 ∷ 10 ∷ []
ended n s = simp append_assoc

between : (n s : List ℕ) → (n ++ ((34 ∷ (s ++ 34 ∷ [])) ++ 125 ∷ [])) ++ 10 ∷ [] ≡ ((n ++ 34 ∷ []) ++ s) ++ 34 ∷ 125 ∷ 10 ∷ []
between n s = simp append_assoc

twice : (n s k t : List ℕ) → (n ++ (s ++ (k ++ (t ++ 125 ∷ [])))) ++ 10 ∷ [] ≡ (n ++ s) ++ ((k ++ t) ++ 125 ∷ 10 ∷ [])
twice n s k t = simp append_assoc

message_value : (m : MessageParts) (b : List ℕ) → MessageText m b
    → (ms : Members) × AreMessageJson m ms × (b ≡ members_text true ms ++ 10 ∷ [])
unfolding escape_byte
message_value (AnyOctets octets) b (inl (u, e)) = (
  member (codes "message") (string octets) no_members,
  inl (u, refl),
  e ∙ sym (ap (λ (t : List ℕ). t ++ 10 ∷ []) (last_text (codes "message") (key_text (codes "message")) octets refl)
      ∙ ended (key_text (codes "message")) (quoted octets)),
)
message_value (AnyOctets octets) b (inr (n, e)) = (
  member (codes "message_base64") (string (encode_of standard octets)) no_members,
  inr (n, refl),
  e ∙ sym (ap (λ (t : List ℕ). t ++ 10 ∷ [])
      (last_text (codes "message_base64") (key_text (codes "message_base64")) (encode_of standard octets) refl)
      ∙ between (key_text (codes "message_base64")) (escape (encode_of standard octets))),
)
message_value (Utf8Text text) b e =
    let bom = member (codes "bom") (boolean true) no_members in
    let last = member_more (codes "bom") (key_text (codes "bom")) (boolean true) (codes "true") no_members (125 ∷ []) refl
    true_value (members_none true) in
    let whole = member_more (codes "message") (key_text (codes "message")) (string text) (quoted text) bom _ refl
    (string_value text) last in (
      member (codes "message") (string text) bom,
      refl,
      e ∙ sym (ap (λ (t : List ℕ). t ++ 10 ∷ []) whole
          ∙ twice (key_text (codes "message")) (quoted text) (key_text (codes "bom")) (codes "true")),
    )

-- ---- the line

five : (x y w d m l : List ℕ) → x ++ (y ++ (w ++ (d ++ (m ++ l)))) ≡ ((((x ++ y) ++ w) ++ d) ++ m) ++ l
five x y w d m l = simp append_assoc

abbrev pub PartsText : LentParts → Language
PartsText p =
    PriorityText p.header.priority ⋅ TimeText p.header.instant
    ⋅ Only (words_text (option_map (λ s. s.now) p.header.hostname) (option_map (λ s. s.now) p.header.app_name)
    (option_map (λ s. s.now) p.header.proc_id) (option_map (λ s. s.now) p.header.msg_id))
    ⋅ DataMember p.«structured_data».now ⋅ MessageText (message_parts p.message)

pub line_whole : (p : LentParts) (b : List ℕ) → PartsText p b → LentLine p b
unfolding JsonLine
line_whole p b (x, b1, e1, (f, s, v, xe), (y, b2, e2, ye, (w, b3, e3, we, (d, z, e4, de, ze)))) es spelled =
    let time = time_value p.header.instant y ye in
    let last = message_value (message_parts p.message) z ze in
    let r = record_of p es in (
      object_of r f s time.0 last.0,
      record {
        facility = f;
        severity = s;
        time = time.0;
        message = last.0;
        priority_is = v;
        time_is = time.1;
        message_is = last.1;
        object_is = refl;
      },
      e1
          ∙ ap₂ (λ (a c : List ℕ). a ++ c) xe
          (e2
          ∙ ap₂ (λ (a c : List ℕ). a ++ c) time.2
          (e3 ∙ ap₂ (λ (a c : List ℕ). a ++ c) we (e4 ∙ ap₂ (λ (a c : List ℕ). a ++ c) (de es spelled) last.2)))
          ∙ five (priority_text r.priority f s) (key_text (codes "time") ++ value_text time.0)
          (words_text r.hostname r.app_name r.proc_id r.msg_id) (key_text (codes "data") ++ 123 ∷ elements_text false es)
          (members_text true last.0) (10 ∷ []) ∙ sym (ap (λ (u : List ℕ). u ++ 10 ∷ []) (object_value r f s time.0 last.0)),
    )

pub parts_put : {X E : Type 0} (p : LentParts) (old s0 s1 s2 s3 new : List ℕ) (r : Result X E)
    → Adds (PriorityText p.header.priority) old s0 → Adds (TimeText p.header.instant) s0 s1
    → Adds (Only (words_text (option_map (λ s. s.now) p.header.hostname) (option_map (λ s. s.now) p.header.app_name)
    (option_map (λ s. s.now) p.header.proc_id) (option_map (λ s. s.now) p.header.msg_id))) s1 s2
    → Adds (DataMember p.«structured_data».now) s2 s3 → Puts (MessageText (message_parts p.message)) s3 new r
    → Puts (LentLine p) old new r
parts_put p old s0 s1 s2 s3 new r h0 h1 h2 h3 h4 =
    let priority : Language = PriorityText p.header.priority in
    let time : Language = TimeText p.header.instant in
    let words : Language =
    Only (words_text (option_map (λ s. s.now) p.header.hostname) (option_map (λ s. s.now) p.header.app_name)
    (option_map (λ s. s.now) p.header.proc_id) (option_map (λ s. s.now) p.header.msg_id)) in
    let elements : Language = DataMember p.«structured_data».now in
    let message : Language = MessageText (message_parts p.message) in
    puts_as (PartsText p) (LentLine p) old new r (line_whole p)
    (puts_then priority (time ⋅ words ⋅ elements ⋅ message) old s0 new r h0
    (puts_then time (words ⋅ elements ⋅ message) s0 s1 new r h1
    (puts_then words (elements ⋅ message) s1 s2 new r h2 (puts_then elements message s2 s3 new r h3 h4))))

pub data_member : {X E : Type 0} (text old mid new : List ℕ) (r : Result X E)
    → Adds (Only (key_text (codes "data") ++ 123 ∷ [])) old mid → Puts (DataOf text) mid new r
    → Puts (DataMember text) old new r
data_member text old mid new r h k =
    let front : List ℕ = key_text (codes "data") ++ 123 ∷ [] in
    puts_as (Only front ⋅ DataOf text) (DataMember text) old new r
    (λ s (a, b, e, f, g). λ es spelled. rw (e, f, g es spelled) refl)
    (puts_then (Only front) (DataOf text) old mid new r h k)

-- ---- the record

-- the elements of structured data stand by id
abbrev pub IsOrdered : List ℕ → Type 0
IsOrdered text = (es : List ElementParts) → StructuredDataText es text → IsById es

-- where they do, the line is that of the record that the octets are
pub by_view : (s : ViewParts) (b l : List ℕ) → IsOrdered s.elements → IsViewOf b s → ShownLine s l
    → (r : Parts ℤ) × WellFormed r b × JsonLine r l
by_view s b l ordered (p, spelled, range, distinct, h) line = (
  shown_record s p.elements,
  (p, spelled, range, distinct, meaning),
  line p.elements h.elements,
)
  where
    meaning : IsMeaning p (shown_record s p.elements)
    meaning = record {
      priority = h.priority;
      time = h.instant;
      hostname = h.hostname;
      app_name = h.app_name;
      proc_id = h.proc_id;
      msg_id = h.msg_id;
      elements = IsPermutation-refl p.elements;
      by_id = ordered p.elements h.elements;
      message = h.message;
    }

-- of canonical octets the line is that of their record
by_canonical : (s : ViewParts) (text : List ℕ) (r : Parts ℤ) → IsRecord r → Canonical r text → IsViewOf text s
    → (l : List ℕ) → ShownLine s l → JsonLine r l
by_canonical s text r valid canonical (p, spelled, range, distinct, h) l line =
    let c = canonical_spelled r text (record_parts r valid) canonical in
    let same = same_parts p (timed r c.time) text spelled c.text in
    let priority : s.priority ≡ r.priority = h.priority ∙ same.header.priority in
    let time : s.instant ≡ r.time = h.instant ∙ same.header.time ∙ sym c.same in
    let hostname : s.hostname ≡ r.hostname = h.hostname ∙ same.header.hostname in
    let app_name : s.app_name ≡ r.app_name = h.app_name ∙ same.header.app_name in
    let proc_id : s.proc_id ≡ r.proc_id = h.proc_id ∙ same.header.proc_id in
    let msg_id : s.msg_id ≡ r.msg_id = h.msg_id ∙ same.header.msg_id in
    let elements : p.elements ≡ r.elements = same.elements in
    let message : s.message ≡ r.message = h.message ∙ same.message in
    let whole : shown_record s p.elements ≡ r =
    rw (priority, time, hostname, app_name, proc_id, msg_id, elements, message) refl in
    subst (λ (q : Parts ℤ). JsonLine q l) whole (line p.elements h.elements)

-- by way of canonical octets
pub by_sorted : (s : ViewParts) (b held l : List ℕ) → AddsCanonical b [] held → IsViewOf held s → ShownLine s l
    → (r : Parts ℤ) × WellFormed r b × JsonLine r l
by_sorted s b held l (r, formed, (text, canonical, e)) seen line = (
  r,
  formed,
  by_canonical s held r (well_formed_valid r b formed) (subst (Canonical r) (sym e) canonical) seen l line,
)

-- what is shown of lent parts
pub shown_of_lent : (p : LentParts) (s : ViewParts) → p.header.priority ≡ s.priority → p.header.instant ≡ s.instant
    → option_map (λ s. s.now) p.header.hostname ≡ s.hostname → option_map (λ s. s.now) p.header.app_name ≡ s.app_name
    → option_map (λ s. s.now) p.header.proc_id ≡ s.proc_id → option_map (λ s. s.now) p.header.msg_id ≡ s.msg_id
    → p.«structured_data».now ≡ s.elements → message_parts p.message ≡ s.message → (l : List ℕ) → LentLine p l
    → ShownLine s l
shown_of_lent p s priority time hostname app_name proc_id msg_id elements message l line es spelled =
    let whole : record_of p es ≡ shown_record s es =
    rw (priority, time, hostname, app_name, proc_id, msg_id, message) refl in
    subst (λ (q : Parts ℤ). JsonLine q l) whole (line es (subst (StructuredDataText es) (sym elements) spelled))

-- canonical octets are a record
pub held_formed : (s : ViewParts) (old held : List ℕ) → old ≡ [] → AddsShown s old held → AnyOf WellFormed held
held_formed s old held e a = (
  a.shown,
  canonical_well_formed a.shown held a.valid
      (subst (Canonical a.shown) (sym (a.added ∙ ap (λ (u : List ℕ). u ++ a.octets) e)) a.canonical),
)

-- ---- what was put

pub puts_line : {X E : Type 0} (L : Language) (b old new : List ℕ) (r : Result X E)
    → ((l : List ℕ) → L l → (q : Parts ℤ) × WellFormed q b × JsonLine q l) → Puts L old new r
    → OnOk r (AddsLine b old new)
puts_line L b old new (Ok x) w (t, a, e) = let k = w t a in (k.0, k.1, (t, k.2, e))
puts_line L b old new (Err x) w a = tt

pub lent_ok : {X E : Type 0} (p : LentParts) (old new : List ℕ) (r : Result X E) → Puts (LentLine p) old new r
    → (es : List ElementParts) → StructuredDataText es p.«structured_data».now
    → OnOk r (Adds (JsonLine (record_of p es)) old new)
lent_ok p old new (Ok x) (t, a, e) es spelled = (t, a es spelled, e)
lent_ok p old new (Err x) a es spelled = tt

pub always_err : {X E : Type 0} (r : Result X E) (P : Type 0) → P → OnErr r P
always_err (Ok x) P h = tt
always_err (Err e) P h = h

pub never_ok : {X E : Type 0} (r : Result X E) (P : Type 0) → is_err r ≡ true → OnOk r P
never_ok (Ok x) P h = absurd cc
never_ok (Err e) P h = tt
