-- What a source over a socket gives, by how much it is still asked for.
use Rattle.std.specs.Prelude.{◌≡◌, ◌⊎◌, ℕ, ◌+◌, ◌<◌, Option, IsNone, IsSome}
use Rattle.syslog_frame.specs.declared.framing.Framing.{Framing}
use Rattle.collect_engine.specs.declared.step.Step.{Step}
use Rattle.collect_engine.specs.declared.step.Step.TheVariants.{Opened, Piece, Ended, Datagram, Finished, Failed}

-- a step of datagrams, of which so many are asked for before it and after it
abbrev pub IsOfDatagrams : ℕ → ℕ → Step → Type 0
IsOfDatagrams old new (Datagram n) = old ≡ new + 1
IsOfDatagrams old new Finished = (old ≡ 0) × (new ≡ 0)
IsOfDatagrams old new Failed = (0 < old) × (new ≡ old)
IsOfDatagrams old new (Opened framing) = ⊥
IsOfDatagrams old new (Piece n) = ⊥
IsOfDatagrams old new Ended = ⊥

-- a step of connections in a framing, of which so many are asked for before it and after it; and the one that is open
abbrev pub IsOfConnections : {A : Type 0} → Framing → ℕ → ℕ → Option A → Option A → Step → Type 0
IsOfConnections kind old new was is (Opened framing) = (framing ≡ kind) × (old ≡ new + 1) × IsNone was × IsSome is
IsOfConnections kind old new was is (Piece n) = (0 < n) × (new ≡ old) × IsSome was × IsSome is
IsOfConnections kind old new was is Ended = (new ≡ old) × IsSome was × IsNone is
IsOfConnections kind old new was is Finished = (old ≡ 0) × (new ≡ 0) × IsNone was × IsNone is
IsOfConnections kind old new was is Failed = (new ≡ old) × ((0 < old) ⊎ IsSome was) × (IsSome was → IsSome is)
    × (IsNone was → IsNone is)
IsOfConnections kind old new was is (Datagram n) = ⊥
