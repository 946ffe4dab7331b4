-- What becomes of an opening.
use Rattle.std.proofs.Common.{◌≡◌, ℕ, ◌≤◌, [], length, refl, inl, inr, arith}
use Rattle.std.specs.Prelude.{Result, Ok, Err}
use Rattle.syslog_frame.specs.declared.framing.Framing.{Framing}
use Rattle.syslog_legacy.specs.declared.frame_reading.FrameReading.{FrameReading}
use Rattle.syslog_collect.specs.Answers.{IsOpening, accepted_opening}
use Rattle.syslog_collect.specs.History.{History, Opened}
use Rattle.syslog_collect.specs.declared.fault.CollectFault.{CollectFault}
use Rattle.syslog_collect.specs.declared.fault.CollectFault.TheVariants as fault
use Rattle.syslog_collect.specs.declared.limits.TheConstants.{CONNECTIONS_MAX}
use Rattle.collect_engine.specs.Receiving.{IfRefused, MayNotOpen, ReceivesAs}
use Rattle.serve_engine.specs.Events.{opening_of}

-- as what an opening is received
pub opened_as : {U : Type 0} (limit : ℕ) (way : FrameReading) (h : History) (w v : ℕ → ℕ) (c : ℕ) (k : Framing)
    (answer : Result U CollectFault) → CONNECTIONS_MAX ≤ limit → IsOpening limit c answer h → ((d : ℕ) → v d ≡ w d)
    → ReceivesAs way h w v (Opened c k) (opening_of answer) [] (accepted_opening c k answer)
opened_as limit way h w v c k (Ok u) many is same = inl (refl, ([], [], (refl, refl)), same, tt)
opened_as limit way h w v c k (Err fault.AlreadyOpen) many is same = (refl, refl, inl is)
opened_as limit way h w v c k (Err fault.TooManyOpen) many (none, full) same =
    let more : CONNECTIONS_MAX ≤ length h.streams = omega (arith, many, full) in (refl, refl, inr more)
opened_as limit way h w v c k (Err (fault.Memory used)) many is same = (refl, refl, same)
opened_as limit way h w v c k (Err fault.NotOpen) many is same = absurd is
opened_as limit way h w v c k (Err fault.ConnFailed) many is same = absurd is
opened_as limit way h w v c k (Err fault.StreamTooLong) many is same = absurd is
opened_as limit way h w v c k (Err fault.Unreleased) many is same = absurd is
opened_as limit way h w v c k (Err (fault.Unterminated start)) many is same = absurd is

-- where it is refused
pub refused_opening : {U : Type 0} (limit : ℕ) (h : History) (c : ℕ) (k : Framing) (answer : Result U CollectFault)
    → IsOpening limit c answer h → IfRefused (opening_of answer) (MayNotOpen limit h (Opened c k))
refused_opening limit h c k (Ok u) is = tt
refused_opening limit h c k (Err fault.AlreadyOpen) is = inl is
refused_opening limit h c k (Err fault.TooManyOpen) (none, full) = inr full
refused_opening limit h c k (Err (fault.Memory used)) is = tt
refused_opening limit h c k (Err fault.NotOpen) is = absurd is
refused_opening limit h c k (Err fault.ConnFailed) is = absurd is
refused_opening limit h c k (Err fault.StreamTooLong) is = absurd is
refused_opening limit h c k (Err fault.Unreleased) is = absurd is
refused_opening limit h c k (Err (fault.Unterminated start)) is = absurd is
