-- What was made of the values of the options.
use Rattle.std.specs.Prelude.{◌≡◌, ℕ, ℤ, ⊤, ◌↔◌, ◌≤◌, List, [], Bool, true, false, codes, Option, Result, Ok, Err}
use Rattle.octet_devices.specs.Device.{OutputState}
use Rattle.driver.specs.Devices.{Reports}
use Rattle.driver.specs.declared.status.TheConstants.{DONE, FAULT, NO_MEMORY, REFUSED}
use Rattle.syslog_sender.specs.Answers.{IsSendFault, IsWriteFault, SendsRecord}
use Rattle.syslog_sender.specs.declared.fault.SendFault.{SendFault}
use Rattle.syslog_sender.specs.declared.fault.SendFault.TheVariants as fault
use Rattle.send_engine.specs.Options.{Name}
use Rattle.send_engine.specs.Sending.{IsMessageOf}
use Rattle.syslog_sender.specs.Senders.{own_facility}
use Rattle.syslog_value.specs.Masks.{Holds}
use Rattle.syslog_value.specs.Severities.{severity_code}
use Rattle.syslog_value.specs.declared.severity.Severity.{Severity}
use Rattle.send_engine.specs.Options.{OptionTexts, OptionValues}
use Rattle.send_engine.specs.declared.values.Values.{Values}
use Rattle.send_engine.specs.declared.values.ValuesFault.{ValuesFault}
use Rattle.send_engine.specs.declared.values.ValuesFault.TheVariants.{Refused, Memory}
use Rattle.syslog_value.specs.declared.facility.Facility.{Facility}
use Rattle.syslog_sender.specs.Senders.{LetsThrough, SenderParts}
use Rattle.syslog_sender.specs.Sent.{event_of, record_of}
use Rattle.syslog_value.specs.Facilities.{facility_name}
use Rattle.syslog_value.specs.Parts.{IsWord, MessageParts, Parts}
use Rattle.syslog_value.specs.Severities.{severity_name}
use Rattle.std.specs.Option.{ForSome}

-- a value was refused, and not memory
abbrev pub IsRefusal : ValuesFault → Type 0
IsRefusal (Refused text) = ⊤
IsRefusal Memory = ⊥

-- the sender of these words, which lets through a severity and all that are more severe
pub record IsSender (t : OptionTexts) (facility : Facility) (up_to : Severity) (s : SenderParts) : Type 0 where
  pub hostname : s.hostname ≡ t.hostname
  pub app_name : s.app_name ≡ t.app_name
  pub proc_id : s.proc_id ≡ t.proc_id
  pub facility_is : s.facility ≡ own_facility facility
  pub mask : (v : Severity) → Holds s.mask v ↔ (severity_code v ≤ severity_code up_to)

-- what is sent but for the message
pub record IsMade (t : OptionTexts) (v : OptionValues) (x : Values) : Type 0 where
  pub sender : IsSender t v.facility v.up_to x.sender
  pub severity : x.severity ≡ v.severity
  pub instant : x.instant ≡ v.time
  pub msg_id : x.msg_id ≡ t.msg_id
  pub framing : x.framing ≡ v.framing

-- the texts name the facility and the mask of a sender, and are its words
pub record NamesSender (t : OptionTexts) (facility : Facility) (up_to : Severity) (s : SenderParts) : Type 0 where
  pub facility_named : facility_name facility ≡ t.facility
  pub up_to_named : severity_name up_to ≡ t.up_to
  pub hostname_valid : ForSome t.hostname (IsWord 255)
  pub app_name_valid : ForSome t.app_name (IsWord 48)
  pub proc_id_valid : ForSome t.proc_id (IsWord 128)
  pub made : IsSender t facility up_to s

-- the record of the values with this message
abbrev pub record_with : Values → MessageParts → Parts ℤ
record_with x message = record_of x.sender (event_of (severity_code x.severity) x.instant x.msg_id [] message)

-- the mask lets the severity through
abbrev pub IsLetThrough : Values → Type 0
IsLetThrough x = LetsThrough x.sender.mask (severity_code x.severity)

-- what a call of the sender for these values and this message did, by its answer
abbrev pub IsSent : Values → MessageParts → Result Bool SendFault → OutputState → OutputState → Type 0
IsSent x m (Ok true) old new = IsLetThrough x × SendsRecord (record_with x m) x.framing old new
IsSent x m (Ok false) old new = ¬ (IsLetThrough x) × (new ≡ old)
IsSent x m (Err f) old new =
    IsLetThrough x × IsSendFault (record_with x m) x.framing old new f × (¬ (IsWriteFault f) → new ≡ old)

-- the texts name these values, and are this message
pub record IsRead (t : OptionTexts) (v : OptionValues) (x : Values) (m : MessageParts) : Type 0 where
  pub named : Name t v
  pub made : IsMade t v x
  pub message : IsMessageOf t.text m

-- what is told of the answer of the sender
abbrev pub ConcludesAs : Result Bool SendFault → OutputState → OutputState → ℕ → Type 0
ConcludesAs (Ok sent) old new status = (status ≡ DONE) × (new ≡ old)
ConcludesAs (Err fault.HasLf) old new status = Reports (codes "has-lf\n") REFUSED old new status
ConcludesAs (Err fault.TooLong) old new status = Reports (codes "canonical-too-long\n") REFUSED old new status
ConcludesAs (Err fault.Memory) old new status = Reports (codes "want of memory\n") NO_MEMORY old new status
ConcludesAs (Err (fault.Write sent)) old new status = Reports (codes "write fault\n") FAULT old new status
