-- The text of JSON, value by value.
use Rattle.std.proofs.Common.{◌≡◌, ℕ, Bool, true, false, List, [], ◌∷◌, ◌++◌, fold, refl, sym, ap, ◌∙◌, append_assoc, append-nil}
use Rattle.std.specs.Prelude.{Option, Some, None, codes, decimal}
use Rattle.json.specs.Token.{Token}
use Rattle.json.specs.Json.{Json, null, boolean, number, string, array, object, Items, no_items, item}
use Rattle.json.specs.Json.{Members, no_members, member}
use Rattle.json.specs.Print.{ends, escape_byte, print, print_from, quoted}
use Rattle.json.specs.Tree.{items_tokens, json_tokens, members_tokens}
use Rattle.json.proofs.Printed.Tokens.{print_from-append}
use Rattle.syslog_value.specs.Facilities.{facility_name}
use Rattle.syslog_value.specs.Parts.{ElementParts, ParamParts, Parts}
use Rattle.syslog_value.specs.Severities.{severity_name}
use Rattle.syslog_value.specs.declared.facility.Facility.{Facility}
use Rattle.syslog_value.specs.declared.severity.Severity.{Severity}
use Rattle.std.specs.Prelude.{ℤ}
use Rattle.record_json.specs.Objects.{elements_json, object_of, param_json, params_json, word_json}
use Rattle.record_json.specs.Texts.{comma_if, element_text, elements_text, key_text, param_text, params_text}
use Rattle.record_json.specs.Texts.{number_text, priority_text, word_text, words_text}

abbrev pub value_text : Json → List ℕ
value_text j = print (json_tokens j)

abbrev pub items_text : Bool → Items → List ℕ
items_text later js = print_from later (items_tokens js)

abbrev pub members_text : Bool → Members → List ℕ
members_text later ms = print_from later (members_tokens ms)

abbrev Ends : Bool → List Token → Bool
Ends c ts = fold (λ _ t. ends t) c ts

-- ---- a value has ended behind its tokens

mutual
  ends_json : (c : Bool) (j : Json) (ts : List Token) → Ends c (json_tokens j ++ ts) ≡ Ends true ts
  ends_json c null ts = refl
  ends_json c (boolean b) ts = refl
  ends_json c (number s) ts = refl
  ends_json c (string s) ts = refl
  ends_json c (array js) ts = ends_items false js ts
  ends_json c (object ms) ts = ends_members false ms ts

  ends_items : (c : Bool) (js : Items) (ts : List Token) → Ends c (items_tokens js ++ ts) ≡ Ends true ts
  ends_items c no_items ts = refl
  ends_items c (item j js) ts =
      ap (Ends c) (append_assoc (json_tokens j) (items_tokens js) ts) ∙ ends_json c j (items_tokens js ++ ts)
      ∙ ends_items true js ts

  ends_members : (c : Bool) (ms : Members) (ts : List Token) → Ends c (members_tokens ms ++ ts) ≡ Ends true ts
  ends_members c no_members ts = refl
  ends_members c (member k j ms) ts =
      ap (Ends false) (append_assoc (json_tokens j) (members_tokens ms) ts)
      ∙ ends_json false j (members_tokens ms ++ ts) ∙ ends_members true ms ts

ended : (c : Bool) (j : Json) → Ends c (json_tokens j) ≡ true
ended c j = ap (Ends c) (sym (append-nil (json_tokens j))) ∙ ends_json c j []

-- ---- a value, and what follows it

value_first : (c : Bool) (j : Json) → print_from c (json_tokens j) ≡ comma_if c ++ value_text j
unfolding print_from
value_first false j = refl
value_first true null = refl
value_first true (boolean b) = refl
value_first true (number s) = refl
value_first true (string s) = refl
value_first true (array js) = refl
value_first true (object ms) = refl

value_then : (c : Bool) (j : Json) (ts : List Token)
    → print_from c (json_tokens j ++ ts) ≡ (comma_if c ++ value_text j) ++ print_from true ts
value_then c j ts =
    print_from-append c (json_tokens j) ts ∙ ap (λ (u : List ℕ). u ++ print_from (Ends c (json_tokens j)) ts) (value_first c j)
    ∙ ap (λ (e : Bool). (comma_if c ++ value_text j) ++ print_from e ts) (ended c j)

item_text : (c : Bool) (j : Json) (js : Items)
    → items_text c (item j js) ≡ (comma_if c ++ value_text j) ++ items_text true js
item_text c j js = value_then c j (items_tokens js)

items_none : (c : Bool) → items_text c no_items ≡ 93 ∷ []
unfolding print_from
items_none true = refl
items_none false = refl

pub members_none : (c : Bool) → members_text c no_members ≡ 125 ∷ []
unfolding print_from
members_none true = refl
members_none false = refl

pub member_text : (c : Bool) (k : List ℕ) (j : Json) (ms : Members)
    → members_text c (member k j ms) ≡ comma_if c ++ ((quoted k ++ 58 ∷ []) ++ (value_text j ++ members_text true ms))
unfolding print_from
member_text true k j ms = ap (λ (u : List ℕ). 44 ∷ ((quoted k ++ 58 ∷ []) ++ u)) (value_then false j (members_tokens ms))
member_text false k j ms = ap (λ (u : List ℕ). (quoted k ++ 58 ∷ []) ++ u) (value_then false j (members_tokens ms))

-- a key behind a comma, as it is printed
abbrev pub named : List ℕ → List ℕ
named k = 44 ∷ (quoted k ++ 58 ∷ [])

pub member_more : (k n : List ℕ) (j : Json) (v : List ℕ) (ms : Members) (rest : List ℕ) → named k ≡ n → value_text j ≡ v
    → members_text true ms ≡ rest → members_text true (member k j ms) ≡ n ++ (v ++ rest)
member_more k n j v ms rest d e f = member_text true k j ms ∙ ap (λ (u : List ℕ). u ++ (value_text j ++ members_text true ms)) d
    ∙ ap (λ (u : List ℕ). n ++ (u ++ members_text true ms)) e ∙ ap (λ (u : List ℕ). n ++ (v ++ u)) f

pub object_text : (ms : Members) → value_text (object ms) ≡ 123 ∷ members_text false ms
unfolding print_from
object_text ms = refl

array_text : (js : Items) → value_text (array js) ≡ 91 ∷ items_text false js
unfolding print_from
array_text js = refl

pub string_value : (s : List ℕ) → value_text (string s) ≡ quoted s
unfolding print_from
string_value s = append-nil (quoted s)

pub number_value : (s : List ℕ) → value_text (number s) ≡ s
unfolding print_from
number_value s = append-nil s

pub null_value : value_text null ≡ codes "null"
unfolding print_from
null_value = refl

pub true_value : value_text (boolean true) ≡ codes "true"
unfolding print_from
true_value = refl

-- ---- structured data

param_value : (p : ParamParts) (c : Bool) → comma_if c ++ value_text (param_json p) ≡ param_text c p
unfolding print_from
param_value p c = simp (append_assoc, append-nil)

params_value : (c : Bool) (ps : List ParamParts) → items_text c (params_json ps) ≡ params_text c ps
params_value c [] = items_none c
params_value c (p ∷ ps) =
    item_text c (param_json p) (params_json ps) ∙ ap (λ (u : List ℕ). u ++ items_text true (params_json ps)) (param_value p c)
    ∙ ap (λ (u : List ℕ). param_text c p ++ u) (params_value true ps)

element_value : (c : Bool) (e : ElementParts) (rest : List ℕ)
    → comma_if c ++ ((quoted e.id ++ 58 ∷ []) ++ (value_text (array (params_json e.params)) ++ rest))
    ≡ element_text c e ++ rest
element_value c e rest =
    ap (λ (u : List ℕ). comma_if c ++ ((quoted e.id ++ 58 ∷ []) ++ (u ++ rest)))
    (array_text (params_json e.params) ∙ ap (λ (u : List ℕ). 91 ∷ u) (params_value false e.params))
    ∙ simp append_assoc

elements_value : (c : Bool) (es : List ElementParts) → members_text c (elements_json es) ≡ elements_text c es
elements_value c [] = members_none c
elements_value c (e ∷ es) =
    member_text c e.id (array (params_json e.params)) (elements_json es)
    ∙ ap (λ (u : List ℕ). comma_if c ++ ((quoted e.id ++ 58 ∷ []) ++ (value_text (array (params_json e.params)) ++ u)))
    (elements_value true es)
    ∙ element_value c e (elements_text true es)

-- ---- the object

word_value : (w : Option (List ℕ)) → value_text (word_json w) ≡ word_text w
word_value None = null_value
word_value (Some w) = string_value w

-- pieces, one after the other
pieces : (p a f b s c t d h e i g j k l q u m : List ℕ)
    → p ++ (a ++ (f ++ (b ++ (s ++ (c ++ (t ++ (d ++ (h ++ (e ++ (i ++ (g ++ (j ++ (k ++ (l ++ (q ++ (u ++ m))))))))))))))))
    ≡ ((((p ++ (a ++ f)) ++ (b ++ s)) ++ (c ++ t)) ++ ((((d ++ h) ++ (e ++ i)) ++ (g ++ j)) ++ (k ++ l)) ++ (q ++ u)) ++ m
pieces p a f b s c t d h e i g j k l q u m = simp append_assoc

pub object_value : (r : Parts ℤ) (f : Facility) (s : Severity) (time : Json) (ms : Members)
    → value_text (object_of r f s time ms)
    ≡ priority_text r.priority f s ++ (key_text (codes "time") ++ value_text time)
    ++ words_text r.hostname r.app_name r.proc_id r.msg_id
    ++ (key_text (codes "data") ++ 123 ∷ elements_text false r.elements) ++ members_text true ms
unfolding escape_byte
object_value r f s time ms =
    let elements : Json = object (elements_json r.elements) in
    let n8 : Members = member (codes "data") elements ms in
    let n7 : Members = member (codes "msgid") (word_json r.msg_id) n8 in
    let n6 : Members = member (codes "proc") (word_json r.proc_id) n7 in
    let n5 : Members = member (codes "app") (word_json r.app_name) n6 in
    let n4 : Members = member (codes "host") (word_json r.hostname) n5 in
    let n3 : Members = member (codes "time") time n4 in
    let n2 : Members = member (codes "severity") (string (severity_name s)) n3 in
    let n1 : Members = member (codes "facility") (string (facility_name f)) n2 in
    let data_is : value_text elements ≡ 123 ∷ elements_text false r.elements =
    object_text (elements_json r.elements) ∙ ap (λ (u : List ℕ). 123 ∷ u) (elements_value false r.elements) in
    let m8 = member_more (codes "data") (key_text (codes "data")) elements (123 ∷ elements_text false r.elements) ms
    (members_text true ms) refl data_is refl in
    let m7 = member_more (codes "msgid") (key_text (codes "msgid")) (word_json r.msg_id) (word_text r.msg_id) n8 _ refl
    (word_value r.msg_id) m8 in
    let m6 = member_more (codes "proc") (key_text (codes "proc")) (word_json r.proc_id) (word_text r.proc_id) n7 _ refl
    (word_value r.proc_id) m7 in
    let m5 = member_more (codes "app") (key_text (codes "app")) (word_json r.app_name) (word_text r.app_name) n6 _ refl
    (word_value r.app_name) m6 in
    let m4 = member_more (codes "host") (key_text (codes "host")) (word_json r.hostname) (word_text r.hostname) n5 _ refl
    (word_value r.hostname) m5 in
    let m3 = member_more (codes "time") (key_text (codes "time")) time (value_text time) n4 _ refl refl m4 in
    let m2 = member_more (codes "severity") (key_text (codes "severity")) (string (severity_name s))
    (quoted (severity_name s)) n3 _ refl (string_value (severity_name s)) m3 in
    let m1 = member_more (codes "facility") (key_text (codes "facility")) (string (facility_name f))
    (quoted (facility_name f)) n2 _ refl (string_value (facility_name f)) m2 in
    let key : List ℕ = quoted (codes "priority") ++ 58 ∷ [] in
    object_text (member (codes "priority") (number (decimal r.priority)) n1)
    ∙ ap (λ (u : List ℕ). 123 ∷ u)
    (member_text false (codes "priority") (number (decimal r.priority)) n1
    ∙ ap (λ (u : List ℕ). key ++ (u ++ members_text true n1)) (number_value (decimal r.priority))
    ∙ ap (λ (u : List ℕ). key ++ (decimal r.priority ++ u)) m1)
    ∙ pieces (number_text r.priority) (key_text (codes "facility")) (quoted (facility_name f)) (key_text (codes "severity"))
    (quoted (severity_name s)) (key_text (codes "time")) (value_text time) (key_text (codes "host")) (word_text r.hostname)
    (key_text (codes "app")) (word_text r.app_name) (key_text (codes "proc")) (word_text r.proc_id)
    (key_text (codes "msgid")) (word_text r.msg_id) (key_text (codes "data")) (123 ∷ elements_text false r.elements)
    (members_text true ms)
