-- The steps of a list: those in it, and then its last one again and again.
use Rattle.std.specs.Prelude.{ℕ, zero, suc, ◌+◌, List, [], ◌∷◌, take, Vec}
use Rattle.std.specs.Global.{Global}
use Rattle.syslog_frame.specs.declared.limits.TheConstants.{FRAME_MAX}
use Rattle.collect_engine.specs.declared.step.Step.{Step}
use Rattle.collect_engine.specs.declared.step.Step.TheVariants.{Opened as step_Opened, Piece as step_Piece}
use Rattle.collect_engine.specs.declared.step.Step.TheVariants.{Ended as step_Ended, Datagram as step_Datagram}
use Rattle.collect_engine.specs.declared.step.Step.TheVariants.{Finished as step_Finished, Failed as step_Failed}
use Rattle.collect_engine.specs.Steps.{Given, Opened, Piece, Ended, Datagram, Finished, Failed}

-- an item of a list: a step, and the octets of a piece or a datagram
abbrev pub Item : Type 0
Item = Step × Vec ℕ Global

-- the step of an item, with as many octets as a source gives at most
abbrev pub listed : Step → List ℕ → Given
listed (step_Opened framing) octets = Opened framing
listed (step_Piece n) octets = Piece (take (FRAME_MAX + 1) octets)
listed step_Ended octets = Ended
listed (step_Datagram n) octets = Datagram (take (FRAME_MAX + 1) octets)
listed step_Finished octets = Finished
listed step_Failed octets = Failed

abbrev pub listed_item : Item → Given
listed_item item = listed item.0 item.1.items

-- the step after so many: the last one where all were given, and a failure where there is none
abbrev pub step_after : List Given → ℕ → Given
step_after [] n = Failed
step_after (x ∷ []) n = x
step_after (x ∷ y ∷ xs) zero = x
step_after (x ∷ y ∷ xs) (suc n) = step_after (y ∷ xs) n
