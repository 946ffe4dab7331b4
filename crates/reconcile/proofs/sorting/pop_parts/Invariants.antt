use Rattle.std.proofs.Common.{◌≡◌, ◌+◌, ◌≤◌, ◌++◌, List, length}
use Rattle.std.specs.List.{AllByRecursion}
use Rattle.archive_text.specs.Entries.{Entry}
use Rattle.archive_text.specs.Text.{IsArchive}
use Rattle.archive_text.specs.declared.limits.TheConstants.{ENTRY_MAX}
use Rattle.reconcile.specs.Ranges.{AreWithin}
use Rattle.reconcile.specs.Reconciling.{Going}
use Rattle.reconcile.specs.Requests.{allowance}
use Rattle.reconcile.specs.declared.range.Range.{Range}
use Rattle.reconcile.specs.declared.part.Part.{Part}
use Rattle.reconcile.proofs.sorting.pop_parts.Given as goal

abbrev pub invariant-sorting : goal.invariant-sorting
invariant-sorting g l =
    let first = l.fn.pending.items in
    let now = l.pending.items ++ (l.large.items ++ l.small.items) in
    record {
      kept : g.S.RangedSet.entries l.own ≡ g.S.RangedSet.entries l.fn.own;
      large : AllByRecursion (λ (p : Part). 2 ≤ p.sum.records) l.large.items;
      costs : allowance l.pending.items + allowance l.large.items + allowance l.small.items ≤ allowance first;
      within : (r : Range) → AreWithin r first → AreWithin r now;
      going : (r : Range) (a b held : List Entry) → IsArchive ENTRY_MAX a → IsArchive ENTRY_MAX b
          → Going r a b (g.S.RangedSet.entries l.fn.own) held first
          → Going r a b (g.S.RangedSet.entries l.fn.own) held now;
    }

abbrev pub decreases-sorting : goal.decreases-sorting
decreases-sorting g l = length l.pending.items
