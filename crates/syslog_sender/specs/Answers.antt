-- What is known after an event was sent, or was not.
use Rattle.std.specs.Prelude.{◌≡◌, ℕ, ℤ, ◌<◌, List, length, Bool, Result, Ok, Err, ⊤}
use Rattle.octet_devices.specs.Device.{OutputState}
use Rattle.octet_devices.specs.Transfers.{WroteAll, WrotePart}
use Rattle.syslog_value.specs.Parts.{Parts}
use Rattle.syslog_fields.specs.Canonical.{Canonical}
use Rattle.syslog_frame.specs.Frames.{IsLine, framed}
use Rattle.syslog_frame.specs.declared.framing.Framing.{Framing}
use Rattle.syslog_frame.specs.declared.framing.Framing.TheVariants.{Lf}
use Rattle.syslog_frame.specs.declared.limits.TheConstants.{FRAME_MAX}
use Rattle.syslog_sender.specs.Sent.{Carries, IsFrame}
use Rattle.syslog_sender.specs.declared.fault.SendFault.{SendFault}
use Rattle.syslog_sender.specs.declared.fault.SendFault.TheVariants.{HasLf, TooLong, Memory, Write}

-- ---- octets as a frame

-- a writer took the frame of the octets
abbrev pub TakesFrame : Framing → List ℕ → OutputState → OutputState → Type 0
TakesFrame framing octets old new = IsFrame framing octets × WroteAll old new (framed framing octets)

-- why a writer did not take it: the first cause that holds; and how much of it was taken
abbrev pub IsFrameFault : Framing → List ℕ → OutputState → OutputState → SendFault → Type 0
IsFrameFault framing octets old new HasLf = (framing ≡ Lf) × ¬ (IsLine octets)
IsFrameFault framing octets old new TooLong = Carries framing octets × (FRAME_MAX < length octets)
IsFrameFault framing octets old new Memory = ⊤
IsFrameFault framing octets old new (Write sent) =
    IsFrame framing octets × WrotePart old new (framed framing octets) sent

-- ---- a record

-- the writer took the frame of the canonical octets
abbrev pub SendsRecord : Parts ℤ → Framing → OutputState → OutputState → Type 0
SendsRecord r framing old new = (octets : List ℕ) × Canonical r octets × TakesFrame framing octets old new

-- why it did not; memory may be refused before the octets are known
abbrev pub IsSendFault : Parts ℤ → Framing → OutputState → OutputState → SendFault → Type 0
IsSendFault r framing old new Memory = ⊤
IsSendFault r framing old new fault = (octets : List ℕ) × Canonical r octets × IsFrameFault framing octets old new fault

-- ---- which answers

-- the writer failed
abbrev pub IsWriteFault : SendFault → Type 0
IsWriteFault (Write sent) = Unit {0}
IsWriteFault fault = ⊥

-- neither the writer failed nor memory was refused
abbrev pub IsAnswered : Result Bool SendFault → Type 0
IsAnswered (Ok sent) = Unit {0}
IsAnswered (Err HasLf) = Unit {0}
IsAnswered (Err TooLong) = Unit {0}
IsAnswered (Err Memory) = ⊥
IsAnswered (Err (Write sent)) = ⊥
