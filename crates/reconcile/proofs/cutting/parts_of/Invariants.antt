use Rattle.std.proofs.Common.{◌≡◌, ◌<◌, ◌≤◌, ◌+◌, List, length, Some}
use Rattle.std.specs.List.{AllByRecursion, sum_by}
use Rattle.archive_text.specs.Entries.{Entry}
use Rattle.reconcile.specs.Ranges.{AreThose, Chain, IsInside, IsProper, IsTold, IsUnder}
use Rattle.reconcile.specs.declared.part.Part.{Part}
use Rattle.reconcile.proofs.Cuts.{between}
use Rattle.reconcile.proofs.cutting.parts_of.Given as goal

abbrev pub invariant-cutting : goal.invariant-cutting
invariant-cutting l = record {
  those : (xs : List Entry) → IsProper l.range → AreThose (IsInside l.range) xs l.entries
      → AreThose (IsInside (between l.low l.range.high)) xs l.rest
      × IsUnder l.range.high l.low
      × Chain (Some l.range.low) (Some l.low) l.parts.items
      × AllByRecursion (IsTold xs) l.parts.items;
  some : AllByRecursion (λ (p : Part). 1 ≤ p.sum.records) l.parts.items;
  total : sum_by (λ (p : Part). p.sum.records) l.parts.items + length l.rest ≡ length l.entries;
  left : 1 ≤ length l.entries → 1 ≤ length l.rest;
  several : length l.rest < length l.entries → 1 ≤ length l.parts.items;
  one : length l.entries ≤ 1 → length l.parts.items ≡ 0;
}

abbrev pub decreases-cutting : goal.decreases-cutting
decreases-cutting l = length l.rest
