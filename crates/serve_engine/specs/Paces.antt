-- The pace of notes.
use Rattle.std.specs.Prelude.{◌≡◌, ◌⊎◌, ◌+◌, ◌-◌, ◌%◌, ◌^◌, ◌≤◌, ℕ, [], min, slice_index_or}
use Rattle.serve_engine.specs.Counts.{count_up}
use Rattle.serve_engine.specs.Rows.{owed_in}
use Rattle.serve_engine.specs.declared.pace.Pace.{Pace}
use Rattle.serve_engine.specs.declared.pace.TheConstants.{ALL_COST, ALL_MOST, PEER_COST, PEER_MOST, ROWS}

-- Ten lines a second are written of one peer and a thousand of all, and bursts of a hundred and a thousand: a line is paid
-- for by time, and so much may be owed.

-- the milliseconds that have passed
abbrev pub clock_of : Pace → ℕ
clock_of pace = pace.clock

-- how many of these it takes until a peer owes nothing, and until all together owe nothing
abbrev pub owed_by : Pace → ℕ → ℕ
owed_by pace peer = owed_in (slice_index_or pace.rows.items (peer % ROWS) []) pace.clock peer

abbrev pub owed_by_all : Pace → ℕ
owed_by_all pace = pace.all_clear_at - pace.clock

-- a line more costs a peer, and all together, no more than they may owe
abbrev pub HasLine : Pace → ℕ → Type 0
HasLine pace peer = (owed_by pace peer + PEER_COST ≤ PEER_MOST) × (owed_by_all pace + ALL_COST ≤ ALL_MOST)

-- it was taken: it costs its peer and all; each other peer owes as before, or nothing, as it has lost its place
pub record SpendsLine (old new : Pace) (peer : ℕ) : Type 0 where
  pub own : owed_by new peer ≡ owed_by old peer + PEER_COST
  pub all : owed_by_all new ≡ owed_by_all old + ALL_COST
  pub others : (q : ℕ) → ¬ (q ≡ peer) → (owed_by new q ≡ owed_by old q) ⊎ (owed_by new q ≡ 0)

-- time has passed, and pays for lines; a clock that reaches the largest value stays there
pub record PaysFor (old new : Pace) (millis : ℕ) : Type 0 where
  pub clock : clock_of new ≡ min (clock_of old + millis) (2 ^ 64 - 1)
  pub peers : (peer : ℕ) → owed_by new peer ≡ owed_by old peer - (clock_of new - clock_of old)
  pub all : owed_by_all new ≡ owed_by_all old - (clock_of new - clock_of old)

-- a line on a peer goes by the pace: where it can be taken it is, and no more lines are quiet; else it is quiet, and the
-- pace stays
abbrev pub GoesByPace : Pace → Pace → ℕ → ℕ → ℕ → Type 0
GoesByPace old new peer quiet quiet_new = (HasLine old peer → SpendsLine old new peer × (quiet_new ≡ quiet))
    × (¬ (HasLine old peer) → (new ≡ old) × (quiet_new ≡ count_up quiet 1))
