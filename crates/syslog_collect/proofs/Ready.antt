-- What a scanner has ready, and what becomes of it.
use Rattle.std.proofs.Common.{ℕ, List}
use Rattle.std.specs.Prelude.{Some}
use Rattle.syslog_frame.specs.Frames.{Frame}
use Rattle.syslog_frame.specs.Reads.{Reads}
use Rattle.syslog_frame.specs.Scan.{Scan, HasFrame}
use Rattle.syslog_frame.specs.declared.framing.Framing.{Framing}
use Rattle.syslog_frame.specs.declared.limits.TheConstants.{FRAME_MAX}
use Rattle.archive_text.specs.Entries.{Entry}
use Rattle.syslog_legacy.specs.declared.frame_reading.FrameReading.{FrameReading}
use Rattle.syslog_collect.specs.Outcomes.{HandlesReady, IsOutcome}
use Rattle.syslog_collect.specs.declared.outcome.Outcome.{Outcome}
use Rattle.syslog_collect.specs.declared.outcome.Outcome.TheVariants.{New, Held, Refused, RefusedLegacy, TooLong}
use Rattle.syslog_collect.specs.declared.outcome.Outcome.TheVariants.{BadCount}

-- the octets of the frame that is ready became this
pub handles_frame : (way : FrameReading) (s : Scan) (old new : List Entry) (f : List ℕ) (o : Outcome) → HasFrame s
    → IsOutcome way old new f o
    → ((kind : Framing) (first : ℕ) (octets : List ℕ) (frames : List (List ℕ)) (rest : List ℕ)
    → Reads FRAME_MAX s kind first octets frames rest → Frame kind f rest)
    → HandlesReady way s old new (Some o)
handles_frame way s old new f New ready out frame =
    (ready, λ kind first octets frames rest r. (f, frame kind first octets frames rest r, out))
handles_frame way s old new f Held ready out frame =
    (ready, λ kind first octets frames rest r. (f, frame kind first octets frames rest r, out))
handles_frame way s old new f (Refused fault) ready out frame =
    (ready, λ kind first octets frames rest r. (f, frame kind first octets frames rest r, out))
handles_frame way s old new f (RefusedLegacy offset) ready out frame =
    (ready, λ kind first octets frames rest r. (f, frame kind first octets frames rest r, out))
handles_frame way s old new f TooLong ready out frame =
    (ready, λ kind first octets frames rest r. (f, frame kind first octets frames rest r, out))
handles_frame way s old new f (BadCount at) ready out frame = absurd out
