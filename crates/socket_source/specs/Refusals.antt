-- What the answers of a socket's calls mean.
use Rattle.std.specs.Prelude.{ℕ, Bool, zero, suc, ◌==◌, ◌||◌, ℤ, pos, negsuc, if◌then◌else◌, Option, Some, None, Result, Ok, Err}
use Rattle.socket_source.specs.declared.refusal.Reading.{Reading}
use Rattle.socket_source.specs.declared.refusal.Reading.TheVariants as reading
use Rattle.socket_source.specs.declared.refusal.Refusal.{Refusal}
use Rattle.socket_source.specs.declared.refusal.Refusal.TheVariants.{Dry, Interrupted, Exhausted, Lost, Broken}
use Rattle.socket_source.specs.declared.refusal.Retry.{Retry}
use Rattle.socket_source.specs.declared.refusal.Retry.TheVariants as retry
use Rattle.socket_source.specs.declared.step.ConnectionEnd.TheVariants as end

-- no descriptor or no memory is left: EMFILE is 24, ENFILE 23, ENOBUFS 105 and ENOMEM 12
abbrev pub is_exhausted : ℕ → Bool
is_exhausted n = (n == 24) || ((n == 23) || ((n == 105) || (n == 12)))

-- the one connection or datagram has an error: EPERM is 1, ENONET 64, EPROTO 71, ENOPROTOOPT 92, EOPNOTSUPP 95, ENETDOWN 100,
-- ENETUNREACH 101, ECONNABORTED 103, ECONNREFUSED 111, EHOSTDOWN 112 and EHOSTUNREACH 113
abbrev pub is_lost : ℕ → Bool
is_lost n = (n == 1) || ((n == 64) || ((n == 71) || ((n == 92) || ((n == 95) || ((n == 100)
    || ((n == 101) || ((n == 103) || ((n == 111) || ((n == 112) || (n == 113))))))))))

-- why the system refused a call, by the number of the error on Linux: EAGAIN is 11 and EINTR 4
abbrev pub refusal_at : Option ℤ → Refusal
refusal_at None = Broken
refusal_at (Some (negsuc n)) = Broken
refusal_at (Some (pos n)) =
    if n == 11 then Dry
    else (if n == 4 then Interrupted
    else (if is_exhausted n then Exhausted else (if is_lost n then Lost else Broken)))

-- what a read of a connection says
abbrev pub reading_as : Result ℕ Refusal → Reading
reading_as (Ok zero) = reading.Ended end.Closed
reading_as (Ok (suc n)) = reading.Piece (suc n)
reading_as (Err Dry) = reading.Dry
reading_as (Err Interrupted) = reading.Again
reading_as (Err Exhausted) = reading.Ended end.Reset
reading_as (Err Lost) = reading.Ended end.Reset
reading_as (Err Broken) = reading.Ended end.Reset

-- what it says of a connection that was silent for too long
abbrev pub ended_if_dry : Reading → Reading
ended_if_dry reading.Dry = reading.Ended end.Idle
ended_if_dry (reading.Piece len) = reading.Piece len
ended_if_dry (reading.Ended e) = reading.Ended e
ended_if_dry reading.Again = reading.Again

-- when a listener's socket is tried again
abbrev pub retry_after : Refusal → Retry
retry_after Dry = retry.Reported
retry_after Interrupted = retry.Now
retry_after Exhausted = retry.Later
retry_after Lost = retry.Now
retry_after Broken = retry.Later
