-- What a peer may send: a bucket that time fills.
use Rattle.std.specs.Prelude.{ℕ, ◌+◌, ◌-◌, ◌*◌, ◌/◌, max, min}
use Rattle.peer_rules.specs.declared.bucket.TheConstants.{BURST_MILLIS, RECORD_CREDIT}
use Rattle.peer_rules.specs.declared.bucket.Bucket.{Bucket}

-- what a full bucket has, in thousandths of a record
abbrev pub full_credit : ℕ → ℕ
full_credit per_second = BURST_MILLIS * per_second

-- that of a peer that was never heard
abbrev pub full_bucket : ℕ → Bucket
full_bucket per_second = record { credit = full_credit per_second; heard = 0 }

-- what it has at a time: each millisecond since the peer was heard earns as many thousandths as records may pass in a second
abbrev pub credit_at : ℕ → Bucket → ℕ → ℕ
credit_at per_second bucket now = min (bucket.credit + per_second * (now - bucket.heard)) (full_credit per_second)

-- how many more records may pass then
abbrev pub room_in : ℕ → Bucket → ℕ → ℕ
room_in per_second bucket now = credit_at per_second bucket now / RECORD_CREDIT

-- of so many records, as many pass as there is room for
abbrev pub passing : ℕ → Bucket → ℕ → ℕ → ℕ
passing per_second bucket now count = min count (room_in per_second bucket now)

-- the bucket after so many records that pass, or none. A time before the one at which the peer was heard is none that it was heard.
abbrev pub bucket_after : ℕ → Bucket → ℕ → ℕ → Bucket
bucket_after per_second bucket now passed = record {
  credit = credit_at per_second bucket now - RECORD_CREDIT * passed;
  heard = max bucket.heard now;
}
