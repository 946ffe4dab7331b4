-- What the texts of the options of `send` name.
use Rattle.std.specs.Prelude.{◌≡◌, ℕ, ℤ, pos, ◌≤◌, List, Option, None, Some, codes, option_map}
use Rattle.std.specs.Option.{ForSome}
use Rattle.std.specs.Str.Parse.{IsNumeral, digits_value}
use Rattle.syslog_frame.specs.declared.framing.Framing.{Framing}
use Rattle.syslog_frame.specs.declared.framing.Framing.TheVariants.{Counted, Lf}
use Rattle.syslog_value.specs.Facilities.{facility_name}
use Rattle.syslog_value.specs.Parts.{IsWord}
use Rattle.syslog_value.specs.Severities.{severity_name}
use Rattle.syslog_value.specs.declared.facility.Facility.{Facility}
use Rattle.syslog_value.specs.declared.severity.Severity.{Severity}
use Rattle.send_engine.specs.declared.options.SendOptions.{SendOptions}

-- the texts, without where they lie in memory
pub record OptionTexts : Type 0 where
  pub facility : List ℕ
  pub severity : List ℕ
  pub up_to : List ℕ
  pub hostname : Option (List ℕ)
  pub app_name : Option (List ℕ)
  pub proc_id : Option (List ℕ)
  pub msg_id : Option (List ℕ)
  pub micros : Option (List ℕ)
  pub framing : List ℕ
  pub text : List ℕ

abbrev pub texts_of : SendOptions → OptionTexts
texts_of o = record {
  facility = o.facility.now;
  severity = o.severity.now;
  up_to = o.up_to.now;
  hostname = option_map (λ s. s.now) o.hostname;
  app_name = option_map (λ s. s.now) o.app_name;
  proc_id = option_map (λ s. s.now) o.proc_id;
  msg_id = option_map (λ s. s.now) o.msg_id;
  micros = option_map (λ s. s.now) o.micros;
  framing = o.framing.now;
  text = o.text.now;
}

-- the values that the texts name, beside the words, which are values as they stand
pub record OptionValues : Type 0 where
  pub facility : Facility
  pub severity : Severity
  pub up_to : Severity
  pub time : Option ℤ
  pub framing : Framing

-- the microseconds that decimal digits alone write, in the years up to 9999
abbrev pub IsMicros : List ℕ → ℤ → Type 0
IsMicros text i = IsNumeral 10 text × (digits_value 10 text ≤ 253_402_300_799_999_999)
    × (i ≡ pos (digits_value 10 text))

abbrev pub IsTime : Option (List ℕ) → Option ℤ → Type 0
IsTime None time = time ≡ None
IsTime (Some text) time = (i : ℤ) × IsMicros text i × (time ≡ Some i)

abbrev pub framing_name : Framing → List ℕ
framing_name Counted = codes "counted"
framing_name Lf = codes "lf"

-- the texts name these values
pub record Name (t : OptionTexts) (v : OptionValues) : Type 0 where
  pub facility : facility_name v.facility ≡ t.facility
  pub severity : severity_name v.severity ≡ t.severity
  pub up_to : severity_name v.up_to ≡ t.up_to
  pub hostname : ForSome t.hostname (IsWord 255)
  pub app_name : ForSome t.app_name (IsWord 48)
  pub proc_id : ForSome t.proc_id (IsWord 128)
  pub msg_id : ForSome t.msg_id (IsWord 32)
  pub time : IsTime t.micros v.time
  pub framing : framing_name v.framing ≡ t.framing

-- they name none: some text is no value of its option
abbrev pub NameNothing : OptionTexts → Type 0
NameNothing t = (v : OptionValues) → ¬ (Name t v)
