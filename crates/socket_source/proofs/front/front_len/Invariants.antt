use Rattle.std.proofs.Common.{◌≡◌, ℕ, ◌<◌}
use Rattle.socket_source.specs.Turns.{marks}
use Rattle.socket_source.proofs.front.front_len.Given as goal

-- the marks so far are counted, and are fewer than a turn may have
abbrev pub invariant-loop-at : goal.invariant-loop-at
invariant-loop-at l = record {
  counted : marks l.framing l.octets l.at ≡ l.count;
  few : l.count < l.most;
  least : (n : ℕ) → n < l.at → marks l.framing l.octets n < l.most;
}
