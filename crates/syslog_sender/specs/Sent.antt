-- What a call of a sender is about, and what is written for it.
use Rattle.std.specs.Prelude.{◌≡◌, ℕ, ℤ, ◌≤◌, ◌⊎◌, List, [], length, Option}
use Rattle.syslog_value.specs.Parts.{Parts, ElementParts, MessageParts}
use Rattle.syslog_fields.specs.Canonical.{Canonical}
use Rattle.syslog_frame.specs.Frames.{IsLine, framed}
use Rattle.syslog_frame.specs.declared.framing.Framing.{Framing}
use Rattle.syslog_frame.specs.declared.framing.Framing.TheVariants.{Counted, Lf}
use Rattle.syslog_frame.specs.declared.limits.TheConstants.{FRAME_MAX}
use Rattle.syslog_sender.specs.Senders.{SenderParts, LetsThrough, own_priority}

-- what is said of an event
pub record EventParts : Type 0 where
  pub priority : ℕ
  pub time : Option ℤ
  pub msg_id : Option (List ℕ)
  pub elements : List ElementParts
  pub message : MessageParts

abbrev pub event_of : ℕ → Option ℤ → Option (List ℕ) → List ElementParts → MessageParts → EventParts
event_of priority time msg_id elements message = record {
  priority = priority;
  time = time;
  msg_id = msg_id;
  elements = elements;
  message = message;
}

-- the record of the event, with the words of the sender, and its facility in place of the kernel's
abbrev pub record_of : SenderParts → EventParts → Parts ℤ
record_of s event = record {
  priority = own_priority s.facility event.priority;
  time = event.time;
  hostname = s.hostname;
  app_name = s.app_name;
  proc_id = s.proc_id;
  msg_id = event.msg_id;
  elements = event.elements;
  message = event.message;
}

-- a framing carries the octets: a line contains no line feed
abbrev pub Carries : Framing → List ℕ → Type 0
Carries Counted octets = Unit {0}
Carries Lf octets = IsLine octets

-- the octets go out as a frame: the framing carries them, and they are not too long
abbrev pub IsFrame : Framing → List ℕ → Type 0
IsFrame framing octets = Carries framing octets × (length octets ≤ FRAME_MAX)

-- what is written for a record: the frame of its canonical octets, or nothing where they are none
abbrev pub WritesRecord : Parts ℤ → Framing → List ℕ → Type 0
WritesRecord r framing text =
    (octets : List ℕ) × Canonical r octets × ((IsFrame framing octets × (text ≡ framed framing octets))
    ⊎ (¬ (IsFrame framing octets) × (text ≡ [])))

-- what is written for an event under the mask in force: nothing where it holds the severity back
abbrev pub Writes : SenderParts → Framing → EventParts → List ℕ → Type 0
Writes s framing event text =
    (LetsThrough s.mask event.priority × WritesRecord (record_of s event) framing text)
    ⊎ (¬ (LetsThrough s.mask event.priority) × (text ≡ []))
