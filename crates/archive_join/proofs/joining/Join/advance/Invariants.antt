use Rattle.std.proofs.Common.{◌≡◌, ℕ, ◌<◌, ◌≤◌, true, false, drop, get_or, length, map, take, vec_len}
use Rattle.archive_join.specs.Failures.{failures_of}
use Rattle.archive_join.specs.Heads.{IsAt, total}
use Rattle.archive_join.specs.Sides.{Advances, AreIdle}
use Rattle.archive_join.specs.declared.head.Head.{Head}
use Rattle.archive_join.proofs.joining.Join.advance.Given as goal

abbrev pub invariant-heads : goal.invariant-heads
invariant-heads g l = record {
  size : vec_len l.self.heads ≡ vec_len l.fn.self.heads;
  inputs : length l.inputs ≡ vec_len l.fn.self.heads;
  held : l.self.held ≡ l.fn.self.held;
  count : l.self.count ≡ l.fn.self.count;
  idle : AreIdle (take l.at l.self.holders.items);
  advances : Advances l.fn.self.heads.items l.fn.self.holders.items l.self.heads.items l.self.holders.items
      (map g.R.Input.state l.fn.inputs) (map g.R.Input.state l.inputs);
  no_farther : total l.self.heads.items ≤ total l.fn.self.heads.items;
  nearer : (at : ℕ) (h : Head) → at < l.at → IsAt l.fn.self.heads.items at h → h.closed ≡ false
      → get_or l.fn.self.holders.items at false ≡ true → total l.self.heads.items < total l.fn.self.heads.items;
  heads : drop l.at l.self.heads.items ≡ drop l.at l.fn.self.heads.items;
  holders : drop l.at l.self.holders.items ≡ drop l.at l.fn.self.holders.items;
  failures : failures_of (map g.R.Input.state l.inputs) ≡ failures_of (map g.R.Input.state l.fn.inputs);
}
