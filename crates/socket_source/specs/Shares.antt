-- The share of each socket, where so many are ready.
use Rattle.std.specs.Prelude.{◌⊎◌, ℕ, ◌*◌, ◌≤◌}
use Rattle.socket_source.specs.declared.limits.TheConstants.{LEAST_FRAMES, LEAST_OCTETS, ROUND_FRAMES, ROUND_OCTETS}
use Rattle.socket_source.specs.declared.limits.TheConstants.{TURN_FRAMES, TURN_OCTETS}
use Rattle.socket_source.specs.declared.share.Share.{Share}

-- One turn has so many of something: no more than a turn may ever have; and if each of those that are ready has as many, all of them
-- together have no more than a round, unless each has no more than it may in any case.
pub record IsPart (most least round ready n : ℕ) : Type 0 where
  pub within : n ≤ most
  pub together : (n ≤ least) ⊎ (n * ready ≤ round)

abbrev pub IsPartOfOctets : ℕ → ℕ → Type 0
IsPartOfOctets ready n = IsPart TURN_OCTETS LEAST_OCTETS ROUND_OCTETS ready n

abbrev pub IsPartOfFrames : ℕ → ℕ → Type 0
IsPartOfFrames ready n = IsPart TURN_FRAMES LEAST_FRAMES ROUND_FRAMES ready n

-- what a turn may give where so many are ready
pub record IsShareOf (ready : ℕ) (share : Share) : Type 0 where
  pub octets : IsPartOfOctets ready share.octets
  pub frames : IsPartOfFrames ready share.frames

-- it may give something, however many are ready
pub record Leaves (share : Share) : Type 0 where
  pub octets : LEAST_OCTETS ≤ share.octets
  pub frames : LEAST_FRAMES ≤ share.frames
