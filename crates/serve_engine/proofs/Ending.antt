-- What becomes of the end of a connection.
use Rattle.std.proofs.Common.{◌≡◌, ◌∙◌, ℕ, [], refl, inl, inr}
use Rattle.std.specs.Prelude.{Result, Ok, Err}
use Rattle.syslog_legacy.specs.declared.frame_reading.FrameReading.{FrameReading}
use Rattle.syslog_collect.specs.Answers.{IfUnreleased, IsEnding, accepted_ending}
use Rattle.syslog_collect.specs.History.{Ended, History}
use Rattle.syslog_collect.specs.declared.fault.CollectFault.{CollectFault}
use Rattle.syslog_collect.specs.declared.fault.CollectFault.TheVariants as fault
use Rattle.collect_engine.specs.Receiving.{IfRefused, ReceivesAs}
use Rattle.collect_engine.specs.declared.receiving.Received.{Received}
use Rattle.collect_engine.specs.declared.receiving.Received.TheVariants as received
use Rattle.serve_engine.specs.Events.{ending_of, turn_after}
use Rattle.serve_engine.specs.declared.turn.Turn.TheVariants.{On}

-- as what an end is received
pub ended_as : {U : Type 0} (way : FrameReading) (h : History) (w v : ℕ → ℕ) (c : ℕ) (answer : Result U CollectFault)
    → IsEnding c answer h → IfUnreleased answer (w c ≡ 1) → ((d : ℕ) → v d ≡ w d)
    → ReceivesAs way h w v (Ended c) (ending_of answer) [] (accepted_ending c answer)
ended_as way h w v c (Ok u) is one same = inl (refl, ([], [], (refl, refl)), same, is)
ended_as way h w v c (Err (fault.Unterminated start)) is one same = (refl, refl, same, is)
ended_as way h w v c (Err fault.NotOpen) is one same = (refl, refl, inl is)
ended_as way h w v c (Err fault.Unreleased) is one same = (refl, refl, inr (same c ∙ one))
ended_as way h w v c (Err (fault.Memory used)) is one same = absurd is
ended_as way h w v c (Err fault.AlreadyOpen) is one same = absurd is
ended_as way h w v c (Err fault.TooManyOpen) is one same = absurd is
ended_as way h w v c (Err fault.ConnFailed) is one same = absurd is
ended_as way h w v c (Err fault.StreamTooLong) is one same = absurd is

-- no memory is wanted
pub never_memory : {U : Type 0} (answer : Result U CollectFault) → ¬ (ending_of answer ≡ received.Memory)
never_memory (Ok u) is = absurd (cc)
never_memory (Err (fault.Unterminated start)) is = absurd (cc)
never_memory (Err (fault.Memory used)) is = absurd (cc)
never_memory (Err fault.NotOpen) is = absurd (cc)
never_memory (Err fault.Unreleased) is = absurd (cc)
never_memory (Err fault.AlreadyOpen) is = absurd (cc)
never_memory (Err fault.TooManyOpen) is = absurd (cc)
never_memory (Err fault.ConnFailed) is = absurd (cc)
never_memory (Err fault.StreamTooLong) is = absurd (cc)

-- so it goes on
pub end_goes_on : (r : Received) → ¬ (r ≡ received.Memory) → On ≡ turn_after r 1
end_goes_on received.Accepted never = refl
end_goes_on (received.Unterminated start) never = refl
end_goes_on received.Refused never = refl
end_goes_on received.Memory never = absurd (never refl)

-- what is so is so where it is refused
pub if_refused : (r : Received) (P : Type 0) → P → IfRefused r P
if_refused received.Accepted P h = tt
if_refused (received.Unterminated start) P h = tt
if_refused received.Refused P h = h
if_refused received.Memory P h = tt
