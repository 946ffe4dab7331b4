-- When no frame waits, and what was received alike.
use Rattle.std.specs.Prelude.{◌≡◌, ◌⊎◌, ◌↔◌, ℕ, List}
use Rattle.archive_text.specs.Entries.{Entry}
use Rattle.syslog_legacy.specs.declared.frame_reading.FrameReading.{FrameReading}
use Rattle.syslog_collect.specs.declared.connections.Connections.{Connections}
use Rattle.syslog_collect.specs.Frames.{IsReceived}
use Rattle.syslog_collect.specs.History.{AcceptedEvent}
use Rattle.syslog_collect.specs.Logs.{waiting}

-- no frame of any number waits to be handled
abbrev pub IsSettled : Connections → Type 0
IsSettled cs = (d : ℕ) → waiting cs d ≡ 0

-- the received sets of two lists of events are equal
abbrev pub ReceivedSame : FrameReading → List AcceptedEvent → List AcceptedEvent → Type 0
ReceivedSame way es fs = (x : Entry) → IsReceived way es x ↔ IsReceived way fs x

-- the received set of a list of events is that of two others together
abbrev pub ReceivedBoth : FrameReading → List AcceptedEvent → List AcceptedEvent → List AcceptedEvent → Type 0
ReceivedBoth way all es fs = (x : Entry) → IsReceived way all x ↔ (IsReceived way es x ⊎ IsReceived way fs x)
