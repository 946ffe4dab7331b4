use Rattle.std.proofs.Common.{◌≡◌, ◌<◌, List, ℕ}
use Rattle.std.specs.Prelude.{IsNone, IsSome, Some}
use Rattle.disk.specs.Calls.{IsUnchanged}
use Rattle.disk.specs.Memory.{shown_now}
use Rattle.journal.specs.Journals.{IsSound}
use Rattle.store_follow.specs.Batches.{Writes}
use Rattle.store_follow.proofs.following.follow_batches.Given as goal

abbrev pub invariant-batches : goal.invariant-batches
invariant-batches g l = record {
  told : g.D.Disk.tells l.disk → g.D.Disk.tells l.initial.disk;
  same : g.D.Disk.tells l.disk → IsUnchanged (g.D.Disk.state l.initial.disk) (g.D.Disk.state l.disk);
  number : l.place.number ≡ l.initial.place.number;
  there : 0 < l._batch → g.D.Disk.tells l.disk → IsSound (g.D.Disk.state l.initial.disk)
      → IsSome ((g.D.Disk.state l.initial.disk).entries l.name).now;
  absent : g.D.Disk.tells l.disk → IsSound (g.D.Disk.state l.initial.disk)
      → IsNone ((g.D.Disk.state l.initial.disk).entries l.name).now → (l.place ≡ l.initial.place)
      × ((g.W.Output.state l.output).taken ≡ (g.W.Output.state l.initial.output).taken);
  writes : g.D.Disk.tells l.disk → IsSound (g.D.Disk.state l.initial.disk) → (file : List ℕ)
      → shown_now ((g.D.Disk.state l.initial.disk).entries l.name) ≡ Some file
      → Writes file l.initial.place.at l.place.at (g.W.Output.state l.initial.output).taken
      (g.W.Output.state l.output).taken;
}
