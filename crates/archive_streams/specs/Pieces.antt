-- What a reader gave and was not yet used, and what its calls do to its counts.
use Rattle.std.specs.Prelude.{◌≡◌, ℕ, ◌+◌, ◌-◌, ◌*◌, ◌^◌, ◌<◌, ◌≤◌, List, ◌++◌, length, take, drop, vec_len, Result, Ok, Err}
use Rattle.std.specs.Io.KnownBytes.{Consumes, IsAtEnd}
use Rattle.octet_devices.specs.Device.{InputState, count_on}
use Rattle.octet_devices.specs.declared.loops.TheConstants.{READ_MAX, READER_CALLS}
use Rattle.archive_streams.specs.declared.fault.InputFault.{InputFault}
use Rattle.archive_streams.specs.declared.fault.InputFault.TheVariants.{Device, Endless}
use Rattle.archive_streams.specs.declared.pieces.Pieces.{Pieces}
use Rattle.archive_streams.specs.declared.pieces.TheConstants.{ENTRIES_READ_MAX}

-- the octets that are not yet used
abbrev pub unused : Pieces → List ℕ
unused p = take (p.end - p.start) (drop p.start p.piece.items)

-- how many octets a call asks for
abbrev pub size_of : Pieces → ℕ
size_of p = vec_len p.piece

-- how many octets the calls that were made can have given
abbrev pub reach : Pieces → ℕ
reach p = size_of p * p.calls

-- a reader that gave these octets was called so often at most, for so many octets a call at most, and not behind its end
pub record HasFewCallsOf (size : ℕ) (d e : InputState) (given : List ℕ) : Type 0 where
  pub calls : d.calls < 2 ^ 63 → e.calls ≤ d.calls + READER_CALLS
  pub octets : d.calls < 2 ^ 63 → length given + size * d.calls ≤ size * e.calls
  pub ends : d.calls < 2 ^ 63 → e.ends ≤ d.ends + 1

-- so it was, for READ_MAX octets a call at most
abbrev pub HasFewCalls : InputState → InputState → List ℕ → Type 0
HasFewCalls d e given = HasFewCallsOf READ_MAX d e given

-- so it was, for ENTRIES_READ_MAX octets a call at most
abbrev pub HasFewLargeCalls : InputState → InputState → List ℕ → Type 0
HasFewLargeCalls d e given = HasFewCallsOf ENTRIES_READ_MAX d e given

-- a reader gave octets, which follow those before; its calls and the ends that it gave were
-- counted, where its own count cannot come to its last value; and behind an end nothing is left
pub record ReadsOn (p q : Pieces) (d e : InputState) (before after : List ℕ) : Type 0 where
  pub more : List ℕ
  pub consumed : Consumes d.left e.left more
  pub grown : after ≡ before ++ more
  pub size : size_of q ≡ size_of p
  pub far : length more + reach p ≤ reach q
  pub calls : d.calls < 2 ^ 63 + p.calls → e.calls + p.calls ≡ d.calls + q.calls
  pub ends : d.calls < 2 ^ 63 + p.calls → e.ends + p.ends ≡ d.ends + q.ends
  pub at_end : (0 < p.ends → IsAtEnd d.left) → 0 < q.ends → IsAtEnd e.left

-- the reader failed at this fault alone
abbrev pub FailuresOf : {X : Type 0} → Result X InputFault → ℕ → ℕ → Type 0
FailuresOf (Ok x) old new = new ≡ old
FailuresOf (Err Device) old new = new ≡ count_on old
FailuresOf (Err Endless) old new = new ≡ old

-- some octets follow those before, so many at most
pub record TakesMore (most : ℕ) (before after : List ℕ) : Type 0 where
  pub more : List ℕ
  pub grown : after ≡ before ++ more
  pub some : 0 < length more
  pub few : length more ≤ most
