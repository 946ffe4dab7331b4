use Rattle.std.proofs.Common.{ℕ, ◌-◌, ◌<◌, ◌≤◌}
use Rattle.store_expiry.specs.Room.{FitsAt, IsLeft, midnight}
use Rattle.store_expiry.proofs.room.first_day.Given as goal

abbrev pub invariant-halved : goal.invariant-halved
invariant-halved l = record {
  ordered : l.low ≤ l.high;
  within : l.high ≤ 3_652_424;
  fits : FitsAt l.undated l.segments l.high l.most;
  needed : (n left : ℕ) → n < l.low → IsLeft l.undated l.segments (midnight n) left → l.most < left;
}

abbrev pub decreases-halved : goal.decreases-halved
decreases-halved l = l.high - l.low
