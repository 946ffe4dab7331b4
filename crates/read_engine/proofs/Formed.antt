-- What a handler makes of what is chosen.
use Rattle.std.proofs.Common.{◌≡◌, Bool, Result, inr, subst}
use Rattle.disk.specs.States.{Files}
use Rattle.driver.specs.Effects.{Done}
use Rattle.driver.specs.Sessions.{Meaning}
use Rattle.driver.specs.declared.stopped.Stopped.{Stopped as Reason}
use Rattle.syslog_frame.specs.declared.framing.Framing.{Framing}
use Rattle.syslog_frame.specs.declared.framing.Framing.TheVariants.{Counted}
use Rattle.frame_engine.specs.Handling.{AtEnd, Handling}
use Rattle.frame_engine.specs.Sessions.{handler_meaning}
use Rattle.frame_engine.specs.declared.input_framing.InputFraming.TheVariants.{Stream}
use Rattle.frame_engine.specs.declared.line.Line.{Line}
use Rattle.archive_sets.specs.declared.range.InRange.{InRange}
use Rattle.session_output.specs.Runs.{Outputs}
use Rattle.store_reading.specs.declared.fault.ReadFault.{ReadFault}
use Rattle.read_engine.specs.Forms.{IsFormed, counted_meaning}
use Rattle.read_engine.specs.Readings.{ReadsThrough}

-- a session of this handler, on counted frames
pub formed : {H : Type 0} (D : H → Handling) (T : H → Line → Done) (E : H → AtEnd) (h k : H) (f : Framing) (M : Meaning)
    (tells failed : Type 0) (files : Files) (range : InRange) (old new : Outputs) (reading : Result (Unit {0}) ReadFault)
    (writing : Result Bool Reason) → h ≡ k → f ≡ Counted
    → ReadsThrough M (handler_meaning (D h) (T h) (E h) (Stream f)) tells failed files range old new reading writing
    → IsFormed M (counted_meaning (D k) (T k) (E k)) tells failed files range old new reading writing
formed D T E h k f M tells failed files range old new reading writing same kind r =
    inr (subst (λ x. ReadsThrough M (counted_meaning (D x) (T x) (E x)) tells failed files range old new reading writing) same
    (subst (λ x. ReadsThrough M (handler_meaning (D h) (T h) (E h) (Stream x)) tells failed files range old new reading writing)
    kind r))
