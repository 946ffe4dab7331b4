-- How serving ends.
use Rattle.std.specs.Prelude.{◌≡◌, ℕ, Bool, true, false, Result, Ok, Err}
use Rattle.octet_devices.specs.Device.{count_on}
use Rattle.collect_engine.specs.declared.serve_end.ServeEnd.{ServeEnd}
use Rattle.collect_engine.specs.declared.serve_end.ServeEnd.TheVariants.{Done, Failed, Endless, Memory}
use Rattle.collect_engine.specs.declared.step.Step.{Step}
use Rattle.collect_engine.specs.declared.step.Step.TheVariants as step

-- the step is an event
abbrev pub IsEventStep : Step → Type 0
IsEventStep (step.Opened framing) = Unit {0}
IsEventStep (step.Piece n) = Unit {0}
IsEventStep step.Ended = Unit {0}
IsEventStep (step.Datagram n) = Unit {0}
IsEventStep step.Finished = ⊥
IsEventStep step.Failed = ⊥

-- where serving ended since the source gave its end
abbrev pub IfEndDone : ServeEnd → Type 0 → Type 0
IfEndDone (Done refused) P = P
IfEndDone Failed P = Unit {0}
IfEndDone Endless P = Unit {0}
IfEndDone Memory P = Unit {0}

-- the ends that a source gave, by whether the last step was one
abbrev pub FinishesBy : {E : Type 0} → Result Bool E → ℕ → ℕ → Type 0
FinishesBy (Ok true) old new = new ≡ count_on old
FinishesBy (Ok false) old new = new ≡ old
FinishesBy (Err e) old new = new ≡ old
