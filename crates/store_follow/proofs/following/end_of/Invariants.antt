use Rattle.std.proofs.Common.{◌≡◌, ◌-◌, ◌^◌, List, ℕ}
use Rattle.std.specs.Prelude.{Some}
use Rattle.disk.specs.Calls.{IsUnchanged}
use Rattle.disk.specs.Memory.{shown_now}
use Rattle.journal.specs.Journals.{IsSound}
use Rattle.store_follow.specs.Batches.{AreBetween}
use Rattle.store_follow.proofs.following.end_of.Given as goal

abbrev pub invariant-loop-end : goal.invariant-loop-end
invariant-loop-end g l = record {
  told : g.D.Disk.tells l.disk → g.D.Disk.tells l.initial.disk;
  same : g.D.Disk.tells l.disk → IsUnchanged (g.D.Disk.state l.initial.disk) (g.D.Disk.state l.disk);
  between : g.D.Disk.tells l.disk → IsSound (g.D.Disk.state l.initial.disk) → (file : List ℕ)
      → shown_now ((g.D.Disk.state l.initial.disk).entries l.name) ≡ Some file
      → (bodies : List (List ℕ)) × AreBetween file 0 l.end bodies;
}

abbrev pub decreases-loop-end : goal.decreases-loop-end
decreases-loop-end g l = 2 ^ 62 - l.end
