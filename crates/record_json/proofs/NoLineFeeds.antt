-- A line has its line feed at the end alone.
use Rattle.std.proofs.Common.{◌≡◌, ◌≢◌, ℕ, ◌<◌, ◌^◌, ◌/◌, ◌%◌, Bool, true, false, not, ◌&&◌, cond, List, [], ◌∷◌, ◌++◌, refl, sym, ap, subst}
use Rattle.std.proofs.Common.{◌∙◌, arith, inl, inr}
use Rattle.std.specs.Prelude.{ℤ, ◌==◌, Option, Some, None, codes, decimal, nat_lt}
use Rattle.std.specs.Char.{digit_char}
use Rattle.std.specs.List.{AllByRecursion}
use Rattle.std.proofs.lemmas.Bool.{ltb-false}
use Rattle.std.proofs.lemmas.Bool.Decides.{nat_tests}
use Rattle.std.proofs.lemmas.Grind.{common_steps}
use Rattle.base64.specs.Engines.{standard}
use Rattle.base64.specs.GeneralPurpose.{encode_of}
use Rattle.json.specs.Json.{Json, boolean, string, Members, no_members, member}
use Rattle.json.specs.Print.{escape, escape_byte, escape_letter, print, quoted}
use Rattle.json.specs.Tree.{json_tokens}
use Rattle.octet_language.specs.Digits.{IsDigit}
use Rattle.octet_language.proofs.Decimal.{digits_decimal}
use Rattle.octet_language.proofs.Lists.{AllByRecursion-append, AllByRecursion-weaker}
use Rattle.syslog_value.specs.Facilities.{facility_name}
use Rattle.syslog_value.specs.Parts.{AnyOctets, ElementParts, IsRecord, MessageParts, ParamParts, Parts, Utf8Text}
use Rattle.syslog_value.specs.Severities.{severity_name}
use Rattle.syslog_value.specs.declared.facility.Facility.{Facility}
use Rattle.syslog_value.specs.declared.severity.Severity.{Severity}
use Rattle.record_json.specs.Objects.{AreMessageJson, IsTimeJson, JsonLine}
use Rattle.record_json.specs.Texts.{comma_if, element_text, elements_text, key_text, number_text, param_text, params_text}
use Rattle.record_json.specs.Texts.{priority_text, word_text, words_text}
use Rattle.record_json.proofs.Printing.{member_more, members_none, members_text, named, null_value, object_value}
use Rattle.record_json.proofs.Printing.{string_value, true_value, value_text}
use Rattle.record_json.proofs.WholeLines.{last_text}

abbrev pub NoLineFeed : List ℕ → Type 0
NoLineFeed s = AllByRecursion (λ x. x ≢ 10) s

joined : (a b : List ℕ) → NoLineFeed a → NoLineFeed b → NoLineFeed (a ++ b)
joined a b h k = AllByRecursion-append (λ x. x ≢ 10) a b h k

-- ---- known octets

is_clean : List ℕ → Bool
is_clean [] = true
is_clean (x ∷ s) = not (x == 10) && is_clean s

parted : (x : ℕ) (s : List ℕ) (p q : Bool) → (x == 10) ≡ p → is_clean s ≡ q → (not p && q) ≡ true
    → (x ≢ 10) × (is_clean s ≡ true)
parted x s true q e f h = absurd cc
parted x s false true e f h = (λ g. grind (arith, nat_tests, e, g), f)
parted x s false false e f h = absurd cc

clean : (s : List ℕ) → is_clean s ≡ true → NoLineFeed s
unfolding is_clean
clean [] e = tt
clean (x ∷ s) e = let k = parted x s (x == 10) (is_clean s) refl refl e in (k.0, clean s k.1)

-- ---- strings

no_letter : (x : ℕ) → escape_letter x ≢ 10
no_letter x = grind (arith, common_steps, nat_tests)

no_digit : (d : ℕ) → digit_char d ≢ 10
no_digit d = grind (arith, common_steps, nat_tests)

in_byte : (x : ℕ) → NoLineFeed (escape_byte x)
unfolding escape_byte
in_byte x = go (nat_lt 0 (escape_letter x)) (nat_lt x 32) refl
  where
    go : (p q : Bool) → nat_lt x 32 ≡ q
        → NoLineFeed (cond p (92 ∷ escape_letter x ∷ [])
        (cond q (92 ∷ 117 ∷ 48 ∷ 48 ∷ digit_char (x / 16) ∷ digit_char (x % 16) ∷ []) (x ∷ [])))
    go true q e = (λ h. omega (arith, h), (no_letter x, tt))
    go false true e = (
      λ h. omega (arith, h),
      (
        λ h. omega (arith, h),
        (λ h. omega (arith, h), (λ h. omega (arith, h), (no_digit (x / 16), (no_digit (x % 16), tt)))),
      ),
    )
    go false false e = (λ h. omega (arith, h, ltb-false x 32 e), tt)

in_escape : (s : List ℕ) → NoLineFeed (escape s)
in_escape [] = tt
in_escape (x ∷ s) = joined (escape_byte x) (escape s) (in_byte x) (in_escape s)

in_quoted : (s : List ℕ) → NoLineFeed (quoted s)
unfolding is_clean
in_quoted s = (λ h. omega (arith, h), joined (escape s) (34 ∷ []) (in_escape s) (clean (34 ∷ []) refl))

in_decimal : (n : ℕ) → n < 2 ^ 64 → NoLineFeed (decimal n)
in_decimal n h = AllByRecursion-weaker IsDigit (λ x. x ≢ 10) (λ x d e. omega (arith, d.0, e)) (decimal n) (digits_decimal n h)

-- ---- the parts of the object

in_comma : (c : Bool) → NoLineFeed (comma_if c)
unfolding is_clean
in_comma true = clean (44 ∷ []) refl
in_comma false = tt

in_param : (c : Bool) (p : ParamParts) → NoLineFeed (param_text c p)
unfolding is_clean
in_param c p =
    let name : List ℕ = comma_if c ++ 91 ∷ quoted p.name in
    let value : List ℕ = name ++ 44 ∷ 34 ∷ escape p.value in
    joined value (34 ∷ 93 ∷ [])
    (joined name (44 ∷ 34 ∷ escape p.value)
    (joined (comma_if c) (91 ∷ quoted p.name) (in_comma c) (joined (91 ∷ []) (quoted p.name) (clean (91 ∷ []) refl) (in_quoted p.name)))
    (joined (44 ∷ 34 ∷ []) (escape p.value) (clean (44 ∷ 34 ∷ []) refl) (in_escape p.value)))
    (clean (34 ∷ 93 ∷ []) refl)

in_params : (c : Bool) (ps : List ParamParts) → NoLineFeed (params_text c ps)
unfolding is_clean
in_params c [] = clean (93 ∷ []) refl
in_params c (p ∷ ps) = joined (param_text c p) (params_text true ps) (in_param c p) (in_params true ps)

in_element : (c : Bool) (e : ElementParts) → NoLineFeed (element_text c e)
unfolding is_clean
in_element c e =
    joined (comma_if c ++ quoted e.id) (58 ∷ 91 ∷ params_text false e.params)
    (joined (comma_if c) (quoted e.id) (in_comma c) (in_quoted e.id))
    (joined (58 ∷ 91 ∷ []) (params_text false e.params) (clean (58 ∷ 91 ∷ []) refl) (in_params false e.params))

in_elements : (c : Bool) (es : List ElementParts) → NoLineFeed (elements_text c es)
unfolding is_clean
in_elements c [] = clean (125 ∷ []) refl
in_elements c (e ∷ es) = joined (element_text c e) (elements_text true es) (in_element c e) (in_elements true es)

in_word : (w : Option (List ℕ)) → NoLineFeed (word_text w)
unfolding is_clean
in_word None = clean (codes "null") refl
in_word (Some w) = in_quoted w

-- a value behind a key
behind : (key value : List ℕ) → is_clean (key_text key) ≡ true → NoLineFeed value → NoLineFeed (key_text key ++ value)
behind key value e h = joined (key_text key) value (clean (key_text key) e) h

in_words : (h a p m : Option (List ℕ)) → NoLineFeed (words_text h a p m)
unfolding is_clean
in_words h a p m =
    let host : List ℕ = key_text (codes "host") ++ word_text h in
    let app : List ℕ = key_text (codes "app") ++ word_text a in
    let proc : List ℕ = key_text (codes "proc") ++ word_text p in
    let msgid : List ℕ = key_text (codes "msgid") ++ word_text m in
    joined (host ++ app ++ proc) msgid
    (joined (host ++ app) proc
    (joined host app (behind (codes "host") (word_text h) refl (in_word h)) (behind (codes "app") (word_text a) refl (in_word a)))
    (behind (codes "proc") (word_text p) refl (in_word p)))
    (behind (codes "msgid") (word_text m) refl (in_word m))

in_priority : (v : ℕ) (f : Facility) (s : Severity) → v < 2 ^ 64 → NoLineFeed (priority_text v f s)
unfolding is_clean
in_priority v f s h =
    let facility : List ℕ = key_text (codes "facility") ++ quoted (facility_name f) in
    let severity : List ℕ = key_text (codes "severity") ++ quoted (severity_name s) in
    joined (number_text v ++ facility) severity
    (joined (number_text v) facility
    (joined (123 ∷ 34 ∷ codes "priority" ++ 34 ∷ 58 ∷ []) (decimal v)
    (clean (123 ∷ 34 ∷ codes "priority" ++ 34 ∷ 58 ∷ []) refl) (in_decimal v h))
    (behind (codes "facility") (quoted (facility_name f)) refl (in_quoted (facility_name f))))
    (behind (codes "severity") (quoted (severity_name s)) refl (in_quoted (severity_name s)))

in_time : (i : Option ℤ) (j : Json) → IsTimeJson i j → NoLineFeed (value_text j)
unfolding is_clean
in_time None j h = subst (λ (k : Json). NoLineFeed (value_text k)) (sym h)
    (subst NoLineFeed (sym null_value) (clean (codes "null") refl))
in_time (Some i) j (t, form, h) = subst (λ (k : Json). NoLineFeed (value_text k)) (sym h)
    (subst NoLineFeed (sym (string_value t)) (in_quoted t))

in_last : (k s : List ℕ) → is_clean (key_text k) ≡ true → named k ≡ key_text k
    → NoLineFeed (members_text true (member k (string s) no_members))
unfolding is_clean
in_last k s e n = subst NoLineFeed (sym (last_text k (key_text k) s n))
    (behind k (quoted s ++ 125 ∷ []) e (joined (quoted s) (125 ∷ []) (in_quoted s) (clean (125 ∷ []) refl)))

in_message : (m : MessageParts) (ms : Members) → AreMessageJson m ms → NoLineFeed (members_text true ms)
unfolding is_clean escape_byte
in_message (AnyOctets octets) ms (inl (u, h)) = subst (λ (k : Members). NoLineFeed (members_text true k)) (sym h)
    (in_last (codes "message") octets refl refl)
in_message (AnyOctets octets) ms (inr (u, h)) = subst (λ (k : Members). NoLineFeed (members_text true k)) (sym h)
    (in_last (codes "message_base64") (encode_of standard octets) refl refl)
in_message (Utf8Text text) ms h =
    let bom : Members = member (codes "bom") (boolean true) no_members in
    let last = member_more (codes "bom") (key_text (codes "bom")) (boolean true) (codes "true") no_members (125 ∷ []) refl
    true_value (members_none true) in
    let whole = member_more (codes "message") (key_text (codes "message")) (string text) (quoted text) bom _ refl
    (string_value text) last in
    subst (λ (k : Members). NoLineFeed (members_text true k)) (sym h)
    (subst NoLineFeed (sym whole)
    (behind (codes "message") (quoted text ++ (key_text (codes "bom") ++ (codes "true" ++ 125 ∷ []))) refl
    (joined (quoted text) (key_text (codes "bom") ++ (codes "true" ++ 125 ∷ [])) (in_quoted text)
    (clean (key_text (codes "bom") ++ (codes "true" ++ 125 ∷ [])) refl))))

-- ---- the law

pub one_line : (r : Parts ℤ) (b : List ℕ) → IsRecord r → JsonLine r b
    → (text : List ℕ) × (b ≡ text ++ 10 ∷ []) × AllByRecursion (λ x. x ≢ 10) text
unfolding JsonLine is_clean
one_line r b valid (j, h, e) =
    let time : List ℕ = key_text (codes "time") ++ value_text h.time in
    let priority : List ℕ = priority_text r.priority h.facility h.severity in
    let words : List ℕ = words_text r.hostname r.app_name r.proc_id r.msg_id in
    let elements : List ℕ = key_text (codes "data") ++ 123 ∷ elements_text false r.elements in
    let whole : NoLineFeed (value_text j) =
    subst NoLineFeed
    (sym (ap value_text h.object_is ∙ object_value r h.facility h.severity h.time h.message))
    (joined (priority ++ time ++ words ++ elements) (members_text true h.message)
    (joined (priority ++ time ++ words) elements
    (joined (priority ++ time) words
    (joined priority time (in_priority r.priority h.facility h.severity (omega (arith, valid.priority)))
    (behind (codes "time") (value_text h.time) refl (in_time r.time h.time h.time_is)))
    (in_words r.hostname r.app_name r.proc_id r.msg_id))
    (behind (codes "data") (123 ∷ elements_text false r.elements) refl
    (joined (123 ∷ []) (elements_text false r.elements) (clean (123 ∷ []) refl) (in_elements false r.elements))))
    (in_message r.message h.message h.message_is)) in
    (print (json_tokens j), e, whole)
