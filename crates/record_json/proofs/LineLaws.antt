-- Two records are one exactly where their lines are.
use Rattle.std.proofs.Common.{◌≡◌, ℕ, zero, suc, ◌+◌, ◌*◌, ◌<◌, ◌≤◌, List, [], ◌∷◌, ◌++◌, length, refl, sym}
use Rattle.std.proofs.Common.{ap, subst, ◌∙◌, arith, inl, inr}
use Rattle.std.specs.Prelude.{ℤ, ◌↔◌, Option, Some, None, Result, Ok, codes, decimal}
use Rattle.std.proofs.Math.Nat.{max-le}
use Rattle.std.proofs.lemmas.Fmt.{decimal_injective}
use Rattle.std.proofs.lemmas.List.{append_cancel_right}
use Rattle.base64.specs.Engines.{standard}
use Rattle.base64.specs.GeneralPurpose.{IsBytes, decode_of, encode_of}
use Rattle.base64.proofs.EngineFacts.{decode_of-encode_of}
use Rattle.base64.specs.declared.decode.DecodeError.{DecodeError}
use Rattle.json.specs.Json.{Json, null, string, document, max_depth}
use Rattle.json.specs.Json.{Members, member}
use Rattle.json.specs.Print.{print}
use Rattle.json.specs.Tree.{HasNumbers, ItemsHaveNumbers, MembersHaveNumbers, depth, items_depth, json_tokens, members_depth}
use Rattle.json.proofs.Printed.Decimals.{IsNumber-decimal}
use Rattle.json.proofs.Printed.Trees.{document-print}
use Rattle.syslog_value.specs.Facilities.{facility_code}
use Rattle.syslog_value.specs.Parts.{AnyOctets, ElementParts, IsMessage, IsOctets, IsRecord, MessageParts, ParamParts, Parts}
use Rattle.syslog_value.specs.Parts.{Utf8Text}
use Rattle.syslog_value.specs.Severities.{severity_code}
use Rattle.syslog_value.proofs.CivilTimes.{civil-injective}
use Rattle.syslog_value.proofs.Tables.{severity_code-lt, facility_once, severity_once}
use Rattle.syslog_fields.specs.Canonical.{TimeForm, civil_text}
use Rattle.syslog_reading.proofs.OneMeaning.{nilable_time_same}
use Rattle.syslog_grammar.proofs.CanonicalParses.{named}
use Rattle.record_json.specs.Objects.{AreMessageJson, IsJsonOf, IsTimeJson, JsonLine, elements_json, object_of, params_json}
use Rattle.record_json.specs.Objects.{word_json}
use Rattle.syslog_value.specs.EqualityLaws.{same_elements, same_params}

-- ---- a record has one object

same_codes : (v w f g s t : ℕ) → s < 8 → t < 8 → v ≡ w → v ≡ f * 8 + s → w ≡ g * 8 + t → (f ≡ g) × (s ≡ t)
same_codes v w f g s t a b e h k = (omega (arith, a, b, e, h, k), omega (arith, a, b, e, h, k))

time_once : (i : Option ℤ) (a b : Json) → IsTimeJson i a → IsTimeJson i b → a ≡ b
time_once None a b h k = h ∙ sym k
time_once (Some i) a b (t, (u, uc, ui, ub), h) (w, (v, vc, vi, vb), k) =
    h ∙ ap string (ub ∙ ap civil_text (civil-injective u v uc vc (ui ∙ sym vi)) ∙ sym vb) ∙ sym k

message_once : (m : MessageParts) (a b : Members) → AreMessageJson m a → AreMessageJson m b → a ≡ b
message_once (AnyOctets octets) a b (inl (u, h)) (inl (v, k)) = h ∙ sym k
message_once (AnyOctets octets) a b (inl (u, h)) (inr (v, k)) = absurd (v u)
message_once (AnyOctets octets) a b (inr (u, h)) (inl (v, k)) = absurd (u v)
message_once (AnyOctets octets) a b (inr (u, h)) (inr (v, k)) = h ∙ sym k
message_once (Utf8Text text) a b h k = h ∙ sym k

object_once : (r : Parts ℤ) (i j : Json) → IsJsonOf r i → IsJsonOf r j → i ≡ j
object_once r i j h k =
    let codes_same = same_codes r.priority r.priority (facility_code h.facility) (facility_code k.facility)
    (severity_code h.severity) (severity_code k.severity) (severity_code-lt h.severity) (severity_code-lt k.severity)
    refl h.priority_is k.priority_is in
    let f : h.facility ≡ k.facility = facility_once h.facility k.facility codes_same.0 in
    let s : h.severity ≡ k.severity = severity_once h.severity k.severity codes_same.1 in
    let time : h.time ≡ k.time = time_once r.time h.time k.time h.time_is k.time_is in
    let message : h.message ≡ k.message = message_once r.message h.message k.message h.message_is k.message_is in
    h.object_is ∙ rw (f, s, time, message) (sym k.object_is)

-- ---- an object is of one record

same_word : (v w : Option (List ℕ)) → word_json v ≡ word_json w → v ≡ w
same_word None None e = refl
same_word None (Some w) e = absurd cc
same_word (Some v) None e = absurd cc
same_word (Some v) (Some w) e = let i : v ≡ w = cc in ap Some i

params_once : (ps qs : List ParamParts) → params_json ps ≡ params_json qs → ps ≡ qs
params_once [] [] e = refl
params_once [] (q ∷ qs) e = absurd cc
params_once (p ∷ ps) [] e = absurd cc
params_once (p ∷ ps) (q ∷ qs) e =
    let name : p.name ≡ q.name = cc in
    let value : p.value ≡ q.value = cc in
    let others : params_json ps ≡ params_json qs = cc in
    let first = same_params p q name value in
    ap (λ (x : ParamParts). x ∷ ps) first ∙ ap (λ (xs : List ParamParts). q ∷ xs) (params_once ps qs others)

elements_once : (es fs : List ElementParts) → elements_json es ≡ elements_json fs → es ≡ fs
elements_once [] [] h = refl
elements_once [] (f ∷ fs) h = absurd cc
elements_once (e ∷ es) [] h = absurd cc
elements_once (e ∷ es) (f ∷ fs) h =
    let id : e.id ≡ f.id = cc in
    let params : params_json e.params ≡ params_json f.params = cc in
    let others : elements_json es ≡ elements_json fs = cc in
    let first = same_elements e f id (params_once e.params f.params params) in
    ap (λ (x : ElementParts). x ∷ es) first ∙ ap (λ (xs : List ElementParts). f ∷ xs) (elements_once es fs others)

same_time : (i k : Option ℤ) (a : Json) → IsTimeJson i a → IsTimeJson k a → i ≡ k
same_time None None a h k = refl
same_time None (Some y) a h (t, form, k) = let e : null ≡ string t = sym h ∙ k in absurd cc
same_time (Some x) None a (t, form, h) k = let e : string t ≡ null = sym h ∙ k in absurd cc
same_time (Some x) (Some y) a (t, form, h) (u, other, k) =
    let e : string t ≡ string u = sym h ∙ k in
    let texts : t ≡ u = cc in
    let first = named (Some x) t form in
    let second = named (Some y) t (subst (TimeForm (Some y)) (sym texts) other) in
    first.same ∙ nilable_time_same first.time second.time t first.text second.text ∙ sym second.same

octets_bytes : (octets : List ℕ) → IsOctets octets → IsBytes octets
octets_bytes [] h i = omega arith
octets_bytes (x ∷ octets) h zero = h.0
octets_bytes (x ∷ octets) h (suc i) = octets_bytes octets h.1 i

same_encoding : (a b : List ℕ) → IsOctets a → IsOctets b → encode_of standard a ≡ encode_of standard b → a ≡ b
same_encoding a b h k e =
    let whole : ◌≡◌ {A = Result (List ℕ) DecodeError} (Ok a) (Ok b) =
    sym (decode_of-encode_of standard a refl (octets_bytes a h)) ∙ ap (decode_of standard) e
    ∙ decode_of-encode_of standard b refl (octets_bytes b k) in
    cc

two_keys : {A : Type 0} (x y : Json) (ms ns : Members)
    → member (codes "message") x ms ≡ member (codes "message_base64") y ns → A
two_keys x y ms ns e =
    let keys : codes "message" ≡ codes "message_base64" = cc in absurd (omega (arith, ap length keys))

same_message : (m n : MessageParts) (a : Members) → IsMessage m → IsMessage n → AreMessageJson m a → AreMessageJson n a
    → m ≡ n
same_message (AnyOctets x) (AnyOctets y) a h k (inl (u, e)) (inl (v, f)) =
    let g = sym e ∙ f in let i : x ≡ y = cc in ap AnyOctets i
same_message (AnyOctets x) (AnyOctets y) a h k (inl (u, e)) (inr (v, f)) = two_keys _ _ _ _ (sym e ∙ f)
same_message (AnyOctets x) (AnyOctets y) a h k (inr (u, e)) (inl (v, f)) = two_keys _ _ _ _ (sym f ∙ e)
same_message (AnyOctets x) (AnyOctets y) a h k (inr (u, e)) (inr (v, f)) =
    let g = sym e ∙ f in
    let i : encode_of standard x ≡ encode_of standard y = cc in ap AnyOctets (same_encoding x y h.0 k.0 i)
same_message (AnyOctets x) (Utf8Text y) a h k (inl (u, e)) f = let g = sym e ∙ f in absurd cc
same_message (AnyOctets x) (Utf8Text y) a h k (inr (u, e)) f = two_keys _ _ _ _ (sym f ∙ e)
same_message (Utf8Text x) (AnyOctets y) a h k e (inl (v, f)) = let g = sym e ∙ f in absurd cc
same_message (Utf8Text x) (AnyOctets y) a h k e (inr (v, f)) = two_keys _ _ _ _ (sym e ∙ f)
same_message (Utf8Text x) (Utf8Text y) a h k e f = let g = sym e ∙ f in let i : x ≡ y = cc in ap Utf8Text i

object_of_one : (r q : Parts ℤ) (j : Json) → IsRecord r → IsRecord q → IsJsonOf r j → IsJsonOf q j → r ≡ q
object_of_one r q j a b h k =
    let whole : object_of r h.facility h.severity h.time h.message ≡ object_of q k.facility k.severity k.time k.message =
    sym h.object_is ∙ k.object_is in
    let number_same : decimal r.priority ≡ decimal q.priority = cc in
    let time_same : h.time ≡ k.time = cc in
    let hostname_same : word_json r.hostname ≡ word_json q.hostname = cc in
    let app_name_same : word_json r.app_name ≡ word_json q.app_name = cc in
    let proc_id_same : word_json r.proc_id ≡ word_json q.proc_id = cc in
    let msg_id_same : word_json r.msg_id ≡ word_json q.msg_id = cc in
    let elements_same : elements_json r.elements ≡ elements_json q.elements = cc in
    let message_same : h.message ≡ k.message = cc in
    let priority : r.priority ≡ q.priority = decimal_injective r.priority q.priority (omega (arith, a.priority))
    (omega (arith, b.priority)) number_same in
    let time : r.time ≡ q.time = same_time r.time q.time h.time h.time_is
    (subst (IsTimeJson q.time) (sym time_same) k.time_is) in
    let hostname = same_word r.hostname q.hostname hostname_same in
    let app_name = same_word r.app_name q.app_name app_name_same in
    let proc_id = same_word r.proc_id q.proc_id proc_id_same in
    let msg_id = same_word r.msg_id q.msg_id msg_id_same in
    let elements = elements_once r.elements q.elements elements_same in
    let message = same_message r.message q.message h.message a.message b.message h.message_is
    (subst (AreMessageJson q.message) (sym message_same) k.message_is) in
    rw (priority, time, hostname, app_name, proc_id, msg_id, elements, message) refl

-- ---- what a reader finds

word_numbers : (w : Option (List ℕ)) → HasNumbers (word_json w)
word_numbers None = tt
word_numbers (Some w) = tt

params_numbers : (ps : List ParamParts) → ItemsHaveNumbers (params_json ps)
params_numbers [] = tt
params_numbers (p ∷ ps) = ((tt, (tt, tt)), params_numbers ps)

elements_numbers : (es : List ElementParts) → MembersHaveNumbers (elements_json es)
elements_numbers [] = tt
elements_numbers (e ∷ es) = (params_numbers e.params, elements_numbers es)

time_numbers : (i : Option ℤ) (j : Json) → IsTimeJson i j → HasNumbers j
time_numbers None j h = subst HasNumbers (sym h) tt
time_numbers (Some i) j (t, form, h) = subst HasNumbers (sym h) tt

message_numbers : (m : MessageParts) (ms : Members) → AreMessageJson m ms → MembersHaveNumbers ms
message_numbers (AnyOctets octets) ms (inl (u, h)) = subst MembersHaveNumbers (sym h) (tt, tt)
message_numbers (AnyOctets octets) ms (inr (u, h)) = subst MembersHaveNumbers (sym h) (tt, tt)
message_numbers (Utf8Text text) ms h = subst MembersHaveNumbers (sym h) (tt, (tt, tt))

word_depth : (w : Option (List ℕ)) → depth (word_json w) ≤ 3
word_depth None = omega arith
word_depth (Some w) = omega arith

params_depth : (ps : List ParamParts) → items_depth (params_json ps) ≤ 1
params_depth [] = omega arith
params_depth (p ∷ ps) = max-le (omega arith) (params_depth ps)

elements_depth : (es : List ElementParts) → members_depth (elements_json es) ≤ 2
elements_depth [] = omega arith
elements_depth (e ∷ es) = max-le (omega (arith, params_depth e.params)) (elements_depth es)

time_depth : (i : Option ℤ) (j : Json) → IsTimeJson i j → depth j ≤ 3
time_depth None j h = subst (λ (k : Json). depth k ≤ 3) (sym h) (omega arith)
time_depth (Some i) j (t, form, h) = subst (λ (k : Json). depth k ≤ 3) (sym h) (omega arith)

message_depth : (m : MessageParts) (ms : Members) → AreMessageJson m ms → members_depth ms ≤ 3
message_depth (AnyOctets octets) ms (inl (u, h)) = subst (λ (k : Members). members_depth k ≤ 3) (sym h) (omega arith)
message_depth (AnyOctets octets) ms (inr (u, h)) = subst (λ (k : Members). members_depth k ≤ 3) (sym h) (omega arith)
message_depth (Utf8Text text) ms h = subst (λ (k : Members). members_depth k ≤ 3) (sym h) (omega arith)

object_numbers : (r : Parts ℤ) (j : Json) → IsRecord r → IsJsonOf r j → HasNumbers j
object_numbers r j a h =
    subst HasNumbers (sym h.object_is) (
      IsNumber-decimal r.priority (omega (arith, a.priority)),
      (
        tt,
        (
          tt,
          (
            time_numbers r.time h.time h.time_is,
            (
              word_numbers r.hostname,
              (
                word_numbers r.app_name,
                (
                  word_numbers r.proc_id,
                  (
                    word_numbers r.msg_id,
                    (elements_numbers r.elements, message_numbers r.message h.message h.message_is),
                  ),
                ),
              ),
            ),
          ),
        ),
      ),
    )

deeper : (n : ℕ) → n ≤ 3 → suc n ≤ max_depth
deeper n h = omega (arith, h)

object_depth : (r : Parts ℤ) (j : Json) → IsJsonOf r j → depth j ≤ max_depth
object_depth r j h =
    let inside : depth (object_of r h.facility h.severity h.time h.message) ≤ max_depth =
    deeper _ (max-le (omega arith) (max-le (omega arith) (max-le (omega arith)
    (max-le (time_depth r.time h.time h.time_is)
    (max-le (word_depth r.hostname) (max-le (word_depth r.app_name) (max-le (word_depth r.proc_id)
    (max-le (word_depth r.msg_id) (max-le (omega (arith, elements_depth r.elements))
    (message_depth r.message h.message h.message_is)))))))))) in
    subst (λ (k : Json). depth k ≤ max_depth) (sym h.object_is) inside

object_read : (r : Parts ℤ) (j : Json) → IsRecord r → IsJsonOf r j → document (print (json_tokens j)) ≡ Some j
object_read r j a h = document-print j (object_numbers r j a h) (object_depth r j h)

-- ---- the laws

pub line_once : (r : Parts ℤ) (b c : List ℕ) → JsonLine r b → JsonLine r c → b ≡ c
unfolding JsonLine
line_once r b c (i, h, e) (j, k, f) =
    e ∙ ap (λ (d : Json). print (json_tokens d) ++ 10 ∷ []) (object_once r i j h k) ∙ sym f

line_of_one : (r q : Parts ℤ) (b : List ℕ) → IsRecord r → IsRecord q → JsonLine r b → JsonLine q b → r ≡ q
unfolding JsonLine
line_of_one r q b a a' (i, h, e) (j, k, f) =
    let texts : print (json_tokens i) ≡ print (json_tokens j) =
    append_cancel_right (print (json_tokens i)) (print (json_tokens j)) (10 ∷ []) (sym e ∙ f) in
    let read : Some i ≡ Some j = sym (object_read r i a h) ∙ ap document texts ∙ object_read q j a' k in
    let same : i ≡ j = cc in
    object_of_one r q j a a' (subst (IsJsonOf r) same h) k

pub injective : (r q : Parts ℤ) (b c : List ℕ) → IsRecord r → IsRecord q → JsonLine r b → JsonLine q c
    → (r ≡ q) ↔ (b ≡ c)
injective r q b c a a' h k = (
  λ same. line_once q b c (subst (λ (p : Parts ℤ). JsonLine p b) same h) k,
  λ same. line_of_one r q b a a' h (subst (JsonLine q) (sym same) k),
)

pub line_read : (r : Parts ℤ) (b : List ℕ) → IsRecord r → JsonLine r b
    → (text : List ℕ) × (j : Json) × (b ≡ text ++ 10 ∷ []) × IsJsonOf r j × (document text ≡ Some j)
unfolding JsonLine
line_read r b a (j, h, e) = (print (json_tokens j), j, e, h, object_read r j a h)
