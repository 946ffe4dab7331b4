-- What a scanner has ready, and whether its stream may stop.
use Rattle.std.specs.Prelude.{◌≡◌, ℕ, ◌<◌, ◌≤◌, ◌+◌, ◌⊎◌, List, [], length}
use Rattle.std.specs.Prelude.{Option, Some, None, Result, Ok, Err}
use Rattle.octet_language.specs.Language.{NoPrefix}
use Rattle.syslog_frame.specs.Frames.{Frame, Whole}
use Rattle.syslog_frame.specs.Scan.{Scan, HasBadCount, HasFrame, HasReady, IsFailed, IsReading}
use Rattle.syslog_frame.specs.declared.fault.EndFault.{EndFault}
use Rattle.syslog_frame.specs.declared.fault.EndFault.TheVariants.{Failed, Unreleased, Unterminated}
use Rattle.syslog_frame.specs.declared.framing.Framing.{Framing}
use Rattle.syslog_frame.specs.declared.ready.Ready.{Ready}
use Rattle.syslog_frame.specs.declared.ready.Ready.TheVariants.{Frame as ready_frame, TooLong, BadCount}

-- what is ready where the scanner is at p: the frame that p is, if not too long; or a bad count
abbrev pub IsReady : ℕ → Scan → Framing → ℕ → List ℕ → Option Ready → Type 0
IsReady most s kind position p None = NoPrefix (Whole kind) p × IsReading s
IsReady most s kind position p (Some (ready_frame f)) = Frame kind f.now p × (length f.now ≤ most)
IsReady most s kind position p (Some TooLong) = (f : List ℕ) × Frame kind f p × (most < length f)
IsReady most s kind position p (Some (BadCount at)) = HasBadCount s × (at ≡ position)

-- what the answer reports of any scanner
abbrev pub ImpliedOf : Scan → Option Ready → Type 0
ImpliedOf s None = IsReading s ⊎ IsFailed s
ImpliedOf s (Some (ready_frame f)) = HasFrame s
ImpliedOf s (Some TooLong) = HasFrame s
ImpliedOf s (Some (BadCount at)) = HasBadCount s × (at ≡ s.position)

-- whether the stream may stop where the scanner is at p
abbrev pub IsEnd : {U : Type 0} → Scan → Framing → ℕ → List ℕ → Result U EndFault → Type 0
IsEnd s kind position p (Ok _) = p ≡ []
IsEnd s kind position p (Err Failed) = ⊥
IsEnd s kind position p (Err Unreleased) = HasReady s
IsEnd s kind position p (Err (Unterminated start)) =
    NoPrefix (Whole kind) p × (0 < length p) × (start + length p ≡ position)
