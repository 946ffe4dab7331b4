use Rattle.std.proofs.Common.{◌≡◌, map, take}
use Rattle.archive_streams.specs.Entries.{current}
use Rattle.archive_join.specs.Heads.{IsAt, is_next}
use Rattle.archive_join.specs.declared.head.Head.{Head}
use Rattle.archive_join.proofs.joining.Join.mark.Given as goal

abbrev pub invariant-heads : goal.invariant-heads
invariant-heads l = record {
  heads : l.self.heads ≡ l.fn.self.heads;
  held : l.self.held ≡ l.fn.self.held;
  count : l.self.count ≡ l.fn.self.count;
  marked : (h : Head) → IsAt l.fn.self.heads.items l.least h
      → take l.at l.self.holders.items ≡ map (is_next (current h.entries)) (take l.at l.fn.self.heads.items);
}
