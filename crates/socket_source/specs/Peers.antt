-- How many connections each host has.
use Rattle.std.specs.Prelude.{◌≡◌, ◌≢◌, ℕ, unwrap_or}
use Rattle.std.specs.Ordering.{nat_cmp}
use Rattle.std.specs.BTreeMap.{get}
use Rattle.socket_source.specs.declared.peers.Peers.{Peers}

-- how many a host has
abbrev pub count_of : Peers → ℕ → ℕ
count_of peers peer = unwrap_or (get nat_cmp peers.counts peer) 0

-- no host has any
abbrev pub IsNobody : Peers → Type 0
IsNobody peers = (peer : ℕ) → count_of peers peer ≡ 0

-- one host has so many, and the others as many as before
pub record Counts (old new : Peers) (peer count : ℕ) : Type 0 where
  pub here : count_of new peer ≡ count
  pub others : (other : ℕ) → other ≢ peer → count_of new other ≡ count_of old other

-- all have as many as before
abbrev pub SameCounts : Peers → Peers → Type 0
SameCounts old new = (peer : ℕ) → count_of new peer ≡ count_of old peer
