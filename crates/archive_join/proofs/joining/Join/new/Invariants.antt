use Rattle.std.proofs.Common.{◌≡◌, ◌-◌, ◌≤◌, true, map, vec_len}
use Rattle.std.specs.List.{AllByRecursion}
use Rattle.archive_join.specs.Heads.{IsNew, key_of}
use Rattle.archive_join.specs.declared.head.Head.{Head}
use Rattle.archive_join.proofs.joining.Join.new.Given as goal

abbrev pub invariant-heads : goal.invariant-heads
invariant-heads l = record {
  few : vec_len l.heads ≤ l.size;
  sizes : vec_len l.holders ≡ vec_len l.heads;
  new : AllByRecursion IsNew l.heads.items;
  due : l.holders.items ≡ map (λ (h : Head). true) l.heads.items;
  keys : l.keys.items ≡ map key_of l.heads.items;
}

abbrev pub decreases-heads : goal.decreases-heads
decreases-heads l = l.size - vec_len l.heads
