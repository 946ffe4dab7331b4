-- The words of a record under the keys that it is counted by.
use Rattle.std.specs.Prelude.{◌≡◌, ℕ, ℤ, ◌<◌, ◌/◌, ◌%◌, List, [], ◌∷◌, Option, None, Some, codes, length, take}
use Rattle.std.specs.List.{AllByRecursion, flat_map}
use Rattle.syslog_value.specs.Facilities.{facility_code, facility_name}
use Rattle.syslog_value.specs.Parts.{Parts}
use Rattle.syslog_value.specs.Severities.{severity_code, severity_name}
use Rattle.syslog_value.specs.declared.facility.Facility.{Facility}
use Rattle.syslog_value.specs.declared.severity.Severity.{Severity}
use Rattle.syslog_fields.specs.Canonical.{TimeForm, word_form}
use Rattle.archive_text.specs.Entries.{Entry}
use Rattle.archive_sets.specs.Fields.{IsOfRecord}
use Rattle.archive_counts.specs.declared.header.HeaderWords.{HeaderWords}
use Rattle.archive_counts.specs.declared.key.CountKey.{CountKey}
use Rattle.archive_counts.specs.declared.key.CountKey.TheVariants.{Host, App, Proc, Msgid, Facility as by_Facility}
use Rattle.archive_counts.specs.declared.key.CountKey.TheVariants.{Severity as by_Severity, Day, Hour, Minute}

-- the first octets of the canonical timestamp; without an instant "undated"
abbrev pub IsPeriodWord : ℕ → Option ℤ → List ℕ → Type 0
IsPeriodWord n None word = word ≡ codes "undated"
IsPeriodWord n (Some i) word = (time : List ℕ) × TimeForm (Some i) time × (word ≡ take n time)

-- the short names of the facility and of the severity in PRIVAL (RFC 5424, section 6.2.1)
abbrev pub IsFacilityWord : ℕ → List ℕ → Type 0
IsFacilityWord priority word = (f : Facility) × (facility_code f ≡ priority / 8) × (word ≡ facility_name f)

abbrev pub IsSeverityWord : ℕ → List ℕ → Type 0
IsSeverityWord priority word = (s : Severity) × (severity_code s ≡ priority % 8) × (word ≡ severity_name s)

-- the word of a record under a key: a day is YYYY-MM-DD, an hour YYYY-MM-DDThh and a minute YYYY-MM-DDThh:mm
abbrev pub IsWordOf : CountKey → Parts ℤ → List ℕ → Type 0
IsWordOf Host r word = word ≡ word_form r.hostname
IsWordOf App r word = word ≡ word_form r.app_name
IsWordOf Proc r word = word ≡ word_form r.proc_id
IsWordOf Msgid r word = word ≡ word_form r.msg_id
IsWordOf by_Facility r word = IsFacilityWord r.priority word
IsWordOf by_Severity r word = IsSeverityWord r.priority word
IsWordOf Day r word = IsPeriodWord 10 r.time word
IsWordOf Hour r word = IsPeriodWord 13 r.time word
IsWordOf Minute r word = IsPeriodWord 16 r.time word

-- the words of the header of a record, as they stand there
pub record AreHeaderWords (r : Parts ℤ) (words : HeaderWords) : Type 0 where
  pub hostname : words.hostname.now ≡ word_form r.hostname
  pub app_name : words.app_name.now ≡ word_form r.app_name
  pub proc_id : words.proc_id.now ≡ word_form r.proc_id
  pub msg_id : words.msg_id.now ≡ word_form r.msg_id

-- one for each key, in their order
abbrev pub AreWordsOf : List CountKey → Parts ℤ → List (List ℕ) → Type 0
AreWordsOf [] r words = words ≡ []
AreWordsOf (key ∷ keys) r [] = ⊥
AreWordsOf (key ∷ keys) r (word ∷ words) = IsWordOf key r word × AreWordsOf keys r words

-- the entry is of a record with these words
abbrev pub HasWords : List CountKey → List (List ℕ) → Entry → Type 0
HasWords keys words e = IsOfRecord (λ r. AreWordsOf keys r words) e.octets

-- each word behind a space
abbrev pub spaced : List (List ℕ) → List ℕ
spaced words = flat_map (λ word. 32 ∷ word) words

-- above the space, as every octet of a word is
abbrev pub IsFree : ℕ → Type 0
IsFree x = 32 < x

-- the text has these words, one for each key
pub record AreSpaced (keys : List CountKey) (words : List (List ℕ)) (text : List ℕ) : Type 0 where
  pub is : text ≡ spaced words
  pub free : AllByRecursion (AllByRecursion IsFree) words
  pub count : length words ≡ length keys

-- the words of a record, so written
abbrev pub WordsText : List CountKey → Parts ℤ → List ℕ → Type 0
WordsText keys r text = (words : List (List ℕ)) × AreWordsOf keys r words × (text ≡ spaced words)

-- the entry is of a record whose words are written so
abbrev pub HasText : List CountKey → List ℕ → Entry → Type 0
HasText keys text e = IsOfRecord (λ r. WordsText keys r text) e.octets
