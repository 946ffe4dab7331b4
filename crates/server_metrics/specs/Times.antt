-- How long commits took.
use Rattle.std.specs.Prelude.{◌≡◌, ℕ, ◌+◌, ◌-◌, ◌^◌, ◌<◌, List, [], ◌∷◌, length, min, nat_le, slice_index, sum, if◌then◌else◌}
use Rattle.std.specs.List.{count_by}
use Rattle.server_metrics.specs.declared.commit_times.CommitTimes.{CommitTimes}

-- a number of a program, which stays at the largest that it can be
abbrev pub capped : ℕ → ℕ
capped n = min n (2 ^ 64 - 1)

-- the bounds, in microseconds: from a millisecond to half a second, and from a second to ten
abbrev pub bounds : List ℕ
bounds = 1000 ∷ 2500 ∷ 5000 ∷ 10000 ∷ 25000 ∷ 50000 ∷ 100000 ∷ 250000 ∷ 500000 ∷ 1000000 ∷ 2500000 ∷ 5000000 ∷ 10000000 ∷ []

-- how many times are at most a bound
abbrev pub count_within : ℕ → List ℕ → ℕ
count_within bound times = count_by (λ micros. nat_le micros bound) times

-- These are the times that were added, in some order: of each bound it is counted how many are at most it, and besides how many there
-- are, and their sum.
pub record IsTallyOf (times : List ℕ) (t : CommitTimes) : Type 0 where
  pub within : (k : ℕ) → k < length bounds → slice_index t.within k ≡ capped (count_within (slice_index bounds k) times)
  pub count : t.count ≡ capped (length times)
  pub sum : t.sum ≡ capped (sum times)

-- one more time is at most a bound, or is not
abbrev pub counted : ℕ → ℕ → ℕ → ℕ
counted micros bound count = if nat_le micros bound then capped (count + 1) else count

-- a time was counted at each bound that it does not exceed, and nothing else was changed
pub record IsCounted (micros : ℕ) (before after : CommitTimes) : Type 0 where
  pub within : (k : ℕ) → k < length bounds → slice_index after.within k
      ≡ counted micros (slice_index bounds k) (slice_index before.within k)
  pub count : after.count ≡ before.count
  pub sum : after.sum ≡ before.sum
