-- The tests of a record that the values of options ask for.
use Rattle.std.specs.Prelude.{ℕ, List, [], ◌∷◌, ◌++◌, ◌&&◌, Vec, map, Option, Some, None, codes, nat_le, length}
use Rattle.std.specs.Prelude.{if◌then◌else◌, option_and_then, option_map, unwrap_or}
use Rattle.std.specs.Global.{Global}
use Rattle.std.specs.Str.{bytes_eq}
use Rattle.clap.specs.Walk.{Row, Text, all_of}
use Rattle.archive_sets.specs.declared.field_test.FieldTest.{FieldTest}
use Rattle.archive_sets.specs.declared.field_test.FieldTest.TheVariants as test
use Rattle.archive_sets.specs.declared.word_field.WordField.{WordField}
use Rattle.archive_sets.specs.declared.word_field.WordField.TheVariants.{Hostname, AppName, ProcId, MsgId}
use Rattle.syslog_value.specs.declared.facility.Facility.{Facility}
use Rattle.syslog_value.specs.declared.severity.Severity.{Severity}
use Rattle.option_values.specs.Values.{all_given}
use Rattle.condition_words.specs.Names.{facility_of, severity_of}
use Rattle.condition_words.specs.WordDecision.{decided_name, decided_word, where_holds}
use Rattle.condition_words.specs.declared.tests_asked.ConditionOption.{ConditionOption}
use Rattle.condition_words.specs.declared.tests_asked.ConditionOption.TheVariants as option

-- a test of a record, its words by their texts
pub data TestAsked : Type 0 where
  AsSevereAs : Severity → TestAsked
  OfFacility : Facility → TestAsked
  -- NILVALUE, or a word
  Word : WordField → Option Text → TestAsked
  WordLike : WordField → Text → TestAsked
  Element : Text → TestAsked
  Message : Text → TestAsked

-- a test, tests and lists of them, without where their words lie in memory
abbrev pub test_asked : FieldTest → TestAsked
test_asked (test.AsSevereAs severity) = AsSevereAs severity
test_asked (test.OfFacility facility) = OfFacility facility
test_asked (test.Word field word) = Word field (option_map (λ s. s.now) word)
test_asked (test.WordLike field pattern) = WordLike field pattern.now
test_asked (test.Element id) = Element id.now
test_asked (test.Message octets) = Message octets.now

abbrev pub tests_asked : List FieldTest → List TestAsked
tests_asked tests = map test_asked tests

abbrev pub lists_asked : List (Vec FieldTest Global) → List (List TestAsked)
lists_asked lists = map (λ tests. tests_asked tests.items) lists

-- ---- what a text asks for: none where no record can have it

abbrev pub severity_test : Text → Option TestAsked
severity_test name = option_map AsSevereAs (severity_of name)

abbrev pub facility_test : Text → Option TestAsked
facility_test name = option_map OfFacility (facility_of name)

-- NILVALUE for "-", or a word of at most n octets
abbrev pub word_test : ℕ → WordField → Text → Option TestAsked
word_test n field text =
    if bytes_eq text (codes "-") then Some (Word field None)
    else where_holds (decided_word n text) (Word field (Some text))

-- a pattern of 1 to 1,024 octets
abbrev pub like_test : WordField → Text → Option TestAsked
like_test field pattern =
    if nat_le 1 (length pattern) && nat_le (length pattern) 1_024 then Some (WordLike field pattern) else None

-- SD-ID
abbrev pub element_test : Text → Option TestAsked
element_test id = where_holds (decided_name id) (Element id)

-- at least one octet
abbrev pub message_test : Text → Option TestAsked
message_test text = if nat_le 1 (length text) then Some (Message text) else None

-- ---- options

-- the name of an option
abbrev pub name_of : ConditionOption → Text
name_of option.Severity = codes "severity"
name_of option.Facility = codes "facility"
name_of option.Host = codes "host"
name_of option.App = codes "app"
name_of option.Proc = codes "proc"
name_of option.MsgId = codes "msgid"
name_of option.Id = codes "id"
name_of option.Message = codes "message"
name_of option.HostLike = codes "host-like"
name_of option.AppLike = codes "app-like"
name_of option.NotHost = codes "not-host"
name_of option.NotApp = codes "not-app"
name_of option.NotMessage = codes "not-message"

-- what the value of an option asks for (RFC 5424, section 6, has the lengths of the words)
abbrev pub test_of : ConditionOption → Text → Option TestAsked
test_of option.Severity text = severity_test text
test_of option.Facility text = facility_test text
test_of option.Host text = word_test 255 Hostname text
test_of option.App text = word_test 48 AppName text
test_of option.Proc text = word_test 128 ProcId text
test_of option.MsgId text = word_test 32 MsgId text
test_of option.Id text = element_test text
test_of option.Message text = message_test text
test_of option.HostLike text = like_test Hostname text
test_of option.AppLike text = like_test AppName text
test_of option.NotHost text = word_test 255 Hostname text
test_of option.NotApp text = word_test 48 AppName text
test_of option.NotMessage text = message_test text

-- what each value of an option asks for, in the order of the words
abbrev pub asked_in : ConditionOption → List Row → List (Option TestAsked)
asked_in option rows = map (test_of option) (unwrap_or (all_of (name_of option) rows) [])

-- the same of several options, one after the other
abbrev pub all_asked : List ConditionOption → List Row → List (Option TestAsked)
all_asked [] rows = []
all_asked (option ∷ options) rows = asked_in option rows ++ all_asked options rows

-- a list before others, unless it is empty
abbrev pub put : {X : Type 0} → List X → List (List X) → List (List X)
put [] lists = lists
put (x ∷ xs) lists = (x ∷ xs) ∷ lists

-- what the values of several options ask for, in a list for each option that is given, where none is refused
abbrev pub lists_in : List ConditionOption → List Row → Option (List (List TestAsked))
lists_in [] rows = Some []
lists_in (option ∷ options) rows =
    option_and_then (λ tests. option_map (put tests) (lists_in options rows)) (all_given (asked_in option rows))
