use Rattle.std.proofs.Common.{◌≡◌, map, take}
use Rattle.archive_counts.specs.Bars.{largest, longest, shown_row}
use Rattle.archive_counts.proofs.bars.extremes.Given as goal

abbrev pub invariant-rows : goal.invariant-rows
invariant-rows l = record {
  most : l.largest ≡ largest (map shown_row (take l.row-index l.rows));
  furthest : l.longest ≡ longest (map shown_row (take l.row-index l.rows));
}
