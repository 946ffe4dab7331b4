-- How fast each peer may send.
use Rattle.std.specs.Prelude.{ℕ, [], nat_eq, unwrap_or}
use Rattle.std.specs.Map.{lookup}
use Rattle.lru.specs.LruCache.{LruCache, lru_cache, put_entries}
use Rattle.peer_rules.specs.Buckets.{full_bucket, passing, room_in}
use Rattle.peer_rules.specs.declared.bucket.Bucket.{Bucket}
use Rattle.peer_rules.specs.declared.rates.Rates.{Rates}
use Rattle.peer_rules.specs.declared.rates.TheConstants.{PEERS_MAX}

-- the peers that are known, by their numbers, the one that was heard last first
abbrev pub heard_by : Rates → LruCache ℕ Bucket
heard_by rates = rates.buckets

-- how many records of each may pass in a second
abbrev pub rate_of : Rates → ℕ
rate_of rates = rates.per_second

-- none is known, and there is room for as many as there may be
abbrev pub nobody : LruCache ℕ Bucket
nobody = lru_cache [] PEERS_MAX

-- the bucket of a peer; a full one if it is not known
abbrev pub bucket_of : Rates → ℕ → Bucket
bucket_of rates peer = unwrap_or (lookup (nat_eq peer) (heard_by rates).entries) (full_bucket (rate_of rates))

-- how many more records of a peer may pass at a time
abbrev pub room_of : Rates → ℕ → ℕ → ℕ
room_of rates peer now = room_in (rate_of rates) (bucket_of rates peer) now

-- What is let through: of so many records of a peer at a time, how many pass. It depends on nothing else, over UDP and over TCP.
abbrev pub lets_through : Rates → ℕ → ℕ → ℕ → ℕ
lets_through rates peer now count = passing (rate_of rates) (bucket_of rates peer) now count

-- a peer was heard: it is first, and if there is no room for it the last is known no more
abbrev pub heard_after : LruCache ℕ Bucket → ℕ → Bucket → LruCache ℕ Bucket
heard_after heard peer bucket = lru_cache (put_entries nat_eq heard peer bucket) heard.cap
