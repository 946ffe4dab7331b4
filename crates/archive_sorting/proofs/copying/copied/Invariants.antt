use Rattle.std.proofs.Common.{◌≡◌, ◌≤◌, take}
use Rattle.std.specs.Prelude.{vec_len}
use Rattle.std.specs.List.{AllByRecursion}
use Rattle.archive_sorting.specs.Spans.{IsWithin, blocks_of, entries_at}
use Rattle.archive_sorting.proofs.copying.copied.Given as goal

abbrev pub invariant-loop-span : goal.invariant-loop-span
invariant-loop-span l = record {
  within : AllByRecursion (IsWithin (blocks_of l.copy)) l.places.items;
  same : entries_at (blocks_of l.copy) l.places.items
      ≡ entries_at (blocks_of l.arena) (take l.span-index l.spans);
  count : vec_len l.places ≤ l.span-index;
}
