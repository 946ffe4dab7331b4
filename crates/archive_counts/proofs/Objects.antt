-- The text of an object, member by member.
use Rattle.std.proofs.Common.{◌≡◌, ℕ, Bool, true, false, List, [], ◌∷◌, ◌++◌, Option, None, Some, length, refl, sym, ap, subst, ◌∙◌}
use Rattle.std.proofs.Common.{append-nil, append_assoc, arith}
use Rattle.std.specs.Prelude.{Result, ℤ, codes, decimal, if◌then◌else◌}
use Rattle.std.specs.Str.{bytes_eq}
use Rattle.json.specs.Json.{Json, null, number, string, Members, member}
use Rattle.json.specs.Print.{escape_byte, quoted}
use Rattle.octet_language.specs.Language.{Each, Only}
use Rattle.syslog_fields.specs.Appending.{Adds, Puts}
use Rattle.syslog_fields.proofs.Appends.{only_then, puts_as}
use Rattle.record_json.specs.Objects.{IsTimeJson}
use Rattle.record_json.specs.Texts.{key_text}
use Rattle.record_json.proofs.Printing.{member_more, member_text, members_none, members_text as printed, named, null_value}
use Rattle.record_json.proofs.Printing.{number_value, object_text, string_value, value_text}
use Rattle.archive_counts.specs.Json.{FrontJson, LineJson, RowJson, TimeValue, member_key, member_name, members_of, members_text}
use Rattle.archive_counts.specs.Json.{object_of, value_of, word_json}
use Rattle.archive_counts.specs.Lines.{Line, count_of, octets_of}
use Rattle.archive_counts.specs.Texts.{AreRowsFor, IsRowFor}
use Rattle.archive_counts.specs.declared.key.CountKey.{CountKey}
use Rattle.archive_counts.specs.declared.key.CountKey.TheVariants as key
use Rattle.archive_counts.specs.declared.rows.Row.{Row}
use Rattle.archive_counts.specs.declared.tally.Tally.{Tally}
use Rattle.archive_counts.proofs.Texts.{Pair, four_texts, pair_puts}

value_by : (b : Bool) (w : List ℕ)
    → value_text (if b then null else string w) ≡ (if b then codes "null" else quoted w)
value_by true w = null_value
value_by false w = string_value w

word_value : (w : List ℕ) → value_text (word_json w) ≡ value_of w
word_value w = value_by (bytes_eq w (45 ∷ [])) w

-- the value of a time, and its text
record TimeIs (i : Option ℤ) (text : List ℕ) : Type 0 where
  json : Json
  is : IsTimeJson i json
  printed_is : value_text json ≡ text

time_is : (i : Option ℤ) (text : List ℕ) → TimeValue i text → TimeIs i text
time_is None text h = record { json = null; is = refl; printed_is = null_value ∙ sym h }
time_is (Some i) text (time, form, is) =
    record { json = string time; is = (time, form, refl); printed_is = string_value time ∙ sym is }

named_is : (k : CountKey) → named (member_name k) ≡ member_key k
unfolding escape_byte
named_is key.Host = refl
named_is key.App = refl
named_is key.Proc = refl
named_is key.Msgid = refl
named_is key.Facility = refl
named_is key.Severity = refl
named_is key.Day = refl
named_is key.Hour = refl
named_is key.Minute = refl

members_value : (keys : List CountKey) (ws : List (List ℕ))
    → printed true (members_of keys ws) ≡ members_text keys ws ++ 125 ∷ []
members_value [] ws = members_none true
members_value (k ∷ keys) [] = members_none true
members_value (k ∷ keys) (w ∷ ws) =
    member_more (member_name k) (member_key k) (word_json w) (value_of w) (members_of keys ws)
    (members_text keys ws ++ 125 ∷ []) (named_is k) (word_value w) (members_value keys ws)
    ∙ sym (append_assoc (member_key k ++ value_of w) (members_text keys ws) (125 ∷ [])
    ∙ append_assoc (member_key k) (value_of w) (members_text keys ws ++ 125 ∷ []))

-- pieces, one after the other
pieces : (a b c d e f g h m z : List ℕ)
    → a ++ (b ++ (c ++ (d ++ (e ++ (f ++ (g ++ (h ++ (m ++ z))))))))
    ≡ (((a ++ b) ++ (c ++ d) ++ (e ++ f) ++ (g ++ h)) ++ m) ++ z
pieces a b c d e f g h m z = simp append_assoc

object_value : (keys : List CountKey) (l : Line) (first last : Json) (from to : List ℕ) → value_text first ≡ from
    → value_text last ≡ to
    → value_text (object_of keys l first last)
    ≡ (((123 ∷ 34 ∷ codes "count" ++ 34 ∷ 58 ∷ decimal (count_of l)) ++ (key_text (codes "octets") ++ decimal (octets_of l))
    ++ (key_text (codes "first") ++ from) ++ (key_text (codes "last") ++ to)) ++ members_text keys l.words) ++ 125 ∷ []
unfolding escape_byte
object_value keys l first last from to is_first is_last =
    let count : Json = number (decimal (count_of l)) in
    let octets : Json = number (decimal (octets_of l)) in
    let n4 : Members = members_of keys l.words in
    let n3 : Members = member (codes "last") last n4 in
    let n2 : Members = member (codes "first") first n3 in
    let n1 : Members = member (codes "octets") octets n2 in
    let m3 = member_more (codes "last") (key_text (codes "last")) last to n4 _ refl is_last (members_value keys l.words) in
    let m2 = member_more (codes "first") (key_text (codes "first")) first from n3 _ refl is_first m3 in
    let m1 = member_more (codes "octets") (key_text (codes "octets")) octets (decimal (octets_of l)) n2 _ refl
    (number_value (decimal (octets_of l))) m2 in
    let key : List ℕ = quoted (codes "count") ++ 58 ∷ [] in
    object_text (member (codes "count") count n1)
    ∙ ap (λ (u : List ℕ). 123 ∷ u)
    (member_text false (codes "count") count n1
    ∙ ap (λ (u : List ℕ). key ++ (u ++ printed true n1)) (number_value (decimal (count_of l)))
    ∙ ap (λ (u : List ℕ). key ++ (decimal (count_of l) ++ u)) m1)
    ∙ pieces (123 ∷ key) (decimal (count_of l)) (key_text (codes "octets")) (decimal (octets_of l))
    (key_text (codes "first")) from (key_text (codes "last")) to (members_text keys l.words) (125 ∷ [])

row_json : (keys : List CountKey) (r : Row) (l : Line) (text : List ℕ) → IsRowFor keys r l → RowJson keys r text
    → LineJson keys l text
row_json keys r l text h (front, members, (from, to, first, last, front_is), members_is, is) =
    let f = time_is l.first from (subst (λ (i : Option ℤ). TimeValue i from) h.first first) in
    let t = time_is l.last to (subst (λ (i : Option ℤ). TimeValue i to) h.last last) in
    let all : List ℕ = members_text keys l.words in
    let head : List ℕ = (123 ∷ 34 ∷ codes "count" ++ 34 ∷ 58 ∷ decimal (count_of l))
    ++ (key_text (codes "octets") ++ decimal (octets_of l)) ++ (key_text (codes "first") ++ from)
    ++ (key_text (codes "last") ++ to) in
    let front_now : front ≡ head =
    subst (λ (o : ℕ). front ≡ (123 ∷ 34 ∷ codes "count" ++ 34 ∷ 58 ∷ decimal (count_of l))
    ++ (key_text (codes "octets") ++ decimal o) ++ (key_text (codes "first") ++ from)
    ++ (key_text (codes "last") ++ to)) h.tally.octets
    (subst (λ (n : ℕ). front ≡ (123 ∷ 34 ∷ codes "count" ++ 34 ∷ 58 ∷ decimal n)
    ++ (key_text (codes "octets") ++ decimal r.tally.octets) ++ (key_text (codes "first") ++ from)
    ++ (key_text (codes "last") ++ to)) h.tally.records front_is) in (
      object_of keys l f.json t.json,
      record { first = f.json; last = t.json; first_is = f.is; last_is = t.is; object_is = refl },
      is
          ∙ ap (λ (u : List ℕ). u ++ members ++ 125 ∷ 10 ∷ []) front_now
          ∙ ap (λ (u : List ℕ). head ++ u ++ 125 ∷ 10 ∷ []) (members_is l.words h.words)
          ∙ sym (append_assoc (head ++ all) (125 ∷ []) (10 ∷ []))
          ∙ ap (λ (u : List ℕ). u ++ 10 ∷ []) (sym (object_value keys l f.json t.json from to f.printed_is t.printed_is)),
    )

pub rows_json : (keys : List CountKey) (rows : List Row) (ls : List Line) (text : List ℕ) → AreRowsFor keys rows ls
    → Each (RowJson keys) rows text → Each (LineJson keys) ls text
rows_json keys [] ls text h t = subst (λ (k : List Line). Each (LineJson keys) k text) (sym h) t
rows_json keys (r ∷ rows) [] text h t = absurd h
rows_json keys (r ∷ rows) (l ∷ ls) text h (a, b, e, first, more) =
    (a, b, e, row_json keys r l a h.0 first, rows_json keys rows ls b h.1 more)

-- ---- one member more

pub member_grows : (keys : List CountKey) (k : CountKey) (ws : List (List ℕ)) (w : List ℕ) → length ws ≡ length keys
    → members_text (keys ++ k ∷ []) (ws ++ w ∷ []) ≡ members_text keys ws ++ (member_key k ++ value_of w)
member_grows [] k [] w h = append-nil (member_key k ++ value_of w)
member_grows [] k (v ∷ ws) w h = absurd (omega (arith, h))
member_grows (x ∷ keys) k [] w h = absurd (omega (arith, h))
member_grows (x ∷ keys) k (v ∷ ws) w h =
    ap (λ (t : List ℕ). member_key x ++ value_of v ++ t) (member_grows keys k ws w (omega (arith, h)))
    ∙ sym (append_assoc (member_key x ++ value_of v) (members_text keys ws) (member_key k ++ value_of w))

-- ---- the members that each line has

front_text : (a b c d e f x y : List ℕ)
    → ((a ++ b ++ c ++ d) ++ e) ++ (x ++ (f ++ y)) ≡ (a ++ b) ++ (c ++ d) ++ (e ++ x) ++ (f ++ y)
front_text a b c d e f x y = simp append_assoc

pub front_json : {X E : Type 0} (t : Tally) (o m1 m2 m3 m4 m5 m6 m7 n : List ℕ) (r : Result X E)
    → Adds (Only (123 ∷ 34 ∷ codes "count" ++ 34 ∷ 58 ∷ [])) o m1 → Adds (Only (decimal t.records)) m1 m2
    → Adds (Only (key_text (codes "octets"))) m2 m3 → Adds (Only (decimal t.octets)) m3 m4
    → Adds (Only (key_text (codes "first"))) m4 m5 → Adds (TimeValue t.first) m5 m6
    → Adds (Only (key_text (codes "last"))) m6 m7 → Puts (TimeValue t.last) m7 n r → Puts (FrontJson t) o n r
front_json t o m1 m2 m3 m4 m5 m6 m7 n r h1 h2 h3 h4 h5 h6 h7 h8 =
    let a : List ℕ = 123 ∷ 34 ∷ codes "count" ++ 34 ∷ 58 ∷ [] in
    let octets : List ℕ = key_text (codes "octets") in
    let first : List ℕ = key_text (codes "first") in
    let last : List ℕ = key_text (codes "last") in
    let p : List ℕ = a ++ decimal t.records ++ octets ++ decimal t.octets in
    puts_as (Pair (p ++ first) (TimeValue t.first) last (TimeValue t.last)) (FrontJson t) o n r
    (λ s (x, y, i, j, e). (
      x,
      y,
      i,
      j,
      e ∙ front_text a (decimal t.records) octets (decimal t.octets) first last x y,
    ))
    (pair_puts (p ++ first) last (TimeValue t.first) (TimeValue t.last) o m5 m6 m7 n r
    (only_then p first o m4 m5
    (four_texts a (decimal t.records) octets (decimal t.octets) o m1 m2 m3 m4 h1 h2 h3 h4) h5) h6 h7 h8)
