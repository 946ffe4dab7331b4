-- The lines of a count as objects of JSON (RFC 8259).
use Rattle.std.specs.Prelude.{◌≡◌, ℕ, ℤ, List, [], ◌∷◌, ◌++◌, Option, None, Some, codes, decimal, if◌then◌else◌}
use Rattle.std.specs.Str.{bytes_eq}
use Rattle.json.specs.Json.{Json, null, number, string, object, Members, no_members, member}
use Rattle.json.specs.Print.{print, quoted}
use Rattle.json.specs.Tree.{json_tokens}
use Rattle.octet_language.specs.Language.{Language}
use Rattle.syslog_fields.specs.Canonical.{TimeForm}
use Rattle.record_json.specs.Objects.{IsTimeJson}
use Rattle.record_json.specs.Texts.{key_text}
use Rattle.archive_counts.specs.Lines.{Line, count_of, octets_of}
use Rattle.archive_counts.specs.Words.{AreSpaced}
use Rattle.archive_counts.specs.declared.key.CountKey.{CountKey}
use Rattle.archive_counts.specs.declared.key.CountKey.TheVariants.{Host, App, Proc, Msgid, Facility, Severity, Day, Hour}
use Rattle.archive_counts.specs.declared.key.CountKey.TheVariants.{Minute}
use Rattle.archive_counts.specs.declared.rows.Row.{Row}
use Rattle.archive_counts.specs.declared.tally.Tally.{Tally}

-- what a member is called
abbrev pub member_name : CountKey → List ℕ
member_name Host = codes "host"
member_name App = codes "app"
member_name Proc = codes "proc"
member_name Msgid = codes "msgid"
member_name Facility = codes "facility"
member_name Severity = codes "severity"
member_name Day = codes "day"
member_name Hour = codes "hour"
member_name Minute = codes "minute"

-- a word as a string; null for NILVALUE
abbrev pub word_json : List ℕ → Json
word_json word = if bytes_eq word (45 ∷ []) then null else string word

-- a member for each key, with its word
abbrev pub members_of : List CountKey → List (List ℕ) → Members
members_of [] words = no_members
members_of (key ∷ keys) [] = no_members
members_of (key ∷ keys) (word ∷ words) = member (member_name key) (word_json word) (members_of keys words)

-- {"count":N,"octets":N,"first":..,"last":..} and a member for each key
abbrev pub object_of : List CountKey → Line → Json → Json → Json
object_of keys l first last =
    object (member (codes "count") (number (decimal (count_of l)))
    (member (codes "octets") (number (decimal (octets_of l)))
    (member (codes "first") first
    (member (codes "last") last (members_of keys l.words)))))

-- the object of a line: its times are strings in canonical form, or null
pub record IsObjectOf (keys : List CountKey) (l : Line) (j : Json) : Type 0 where
  pub first : Json
  pub last : Json
  pub first_is : IsTimeJson l.first first
  pub last_is : IsTimeJson l.last last
  pub object_is : j ≡ object_of keys l first last

-- the compact text of the object, and a line feed
abbrev pub LineJson : List CountKey → Line → Language
LineJson keys l text = (j : Json) × IsObjectOf keys l j × (text ≡ print (json_tokens j) ++ 10 ∷ [])

-- ---- from rows

abbrev pub TimeValue : Option ℤ → Language
TimeValue None text = text ≡ codes "null"
TimeValue (Some i) text = (time : List ℕ) × TimeForm (Some i) time × (text ≡ quoted time)

abbrev pub value_of : List ℕ → List ℕ
value_of word = if bytes_eq word (45 ∷ []) then codes "null" else quoted word

-- a comma, the name and a colon
abbrev pub member_key : CountKey → List ℕ
member_key key = key_text (member_name key)

abbrev pub members_text : List CountKey → List (List ℕ) → List ℕ
members_text [] words = []
members_text (key ∷ keys) [] = []
members_text (key ∷ keys) (word ∷ words) = member_key key ++ value_of word ++ members_text keys words

abbrev pub MembersText : List CountKey → List ℕ → Language
MembersText keys spelled text =
    (words : List (List ℕ)) → AreSpaced keys words spelled → text ≡ members_text keys words

abbrev pub FrontJson : Tally → Language
FrontJson t text = (from : List ℕ) × (to : List ℕ) × TimeValue t.first from × TimeValue t.last to
    × (text ≡ 123 ∷ 34 ∷ codes "count" ++ 34 ∷ 58 ∷ decimal t.records
    ++ (key_text (codes "octets") ++ decimal t.octets) ++ (key_text (codes "first") ++ from)
    ++ (key_text (codes "last") ++ to))

abbrev pub RowJson : List CountKey → Row → Language
RowJson keys r text = (front : List ℕ) × (members : List ℕ) × FrontJson r.tally front
    × MembersText keys r.words.items members × (text ≡ front ++ members ++ 125 ∷ 10 ∷ [])
