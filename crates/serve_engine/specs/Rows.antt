-- Places of peers.
use Rattle.std.specs.Prelude.{◌≡◌, ◌⊎◌, ◌-◌, ◌==◌, ℕ, List, [], ◌∷◌, if◌then◌else◌}
use Rattle.serve_engine.specs.declared.row.Bucket.{Bucket}

-- how much a peer of a row owes: nothing, where it has no place
abbrev pub owed_in : List Bucket → ℕ → ℕ → ℕ
owed_in [] clock peer = 0
owed_in (b ∷ bs) clock peer = if b.peer == peer then b.clear_at - clock else owed_in bs clock peer

-- a bucket is in its row, and each other peer owes as before, or has lost its place
abbrev pub StandsFirst : List Bucket → List Bucket → Bucket → Type 0
StandsFirst old new b = ((clock : ℕ) → owed_in new clock b.peer ≡ b.clear_at - clock)
    × ((clock : ℕ) (q : ℕ) → ¬ (q ≡ b.peer) → (owed_in new clock q ≡ owed_in old clock q) ⊎ (owed_in new clock q ≡ 0))
