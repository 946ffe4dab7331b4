use Rattle.std.proofs.Common.{◌≡◌, List, ℕ, true, false, take}
use Rattle.std.specs.Prelude.{Contains}
use Rattle.disk.specs.Calls.{IsUnchanged}
use Rattle.journal.specs.Journals.{IsSound}
use Rattle.store_upkeep.specs.Compaction.{shown}
use Rattle.store_expiry.specs.Expiry.{IsClear, Sheds}
use Rattle.store_expiry.specs.Lines.{AreApart, WritesAll}
use Rattle.store_expiry.specs.Surveys.{IsWholeOrUnexpired}
use Rattle.store_expiry.proofs.expiry.expire_each.Given as goal

abbrev pub invariant-names : goal.invariant-names
invariant-names g l =
    let before = g.D.Disk.state l.fn.disk in
    let now = g.D.Disk.state l.disk in
    record {
      told : g.D.Disk.tells l.disk → g.D.Disk.tells l.fn.disk;
      sound : g.D.Disk.tells l.disk → IsSound before → IsSound now;
      sheds : g.D.Disk.tells l.disk → IsSound before → Sheds l.expired before now;
      lines : g.D.Disk.tells l.disk → IsSound before → AreApart l.names → WritesAll l.expired before now
          (g.W.Output.state l.fn.output).taken (g.W.Output.state l.output).taken (Contains (take l.name-index l.names));
      clear : g.D.Disk.tells l.disk → IsSound before → l.dry_run ≡ false → (name : List ℕ)
          → Contains (take l.name-index l.names) name → IsClear l.expired (shown now) name;
      whole : g.D.Disk.tells l.disk → IsSound before → (name : List ℕ) → Contains (take l.name-index l.names) name
          → IsWholeOrUnexpired l.expired (shown before) name;
      unless : g.D.Disk.tells l.disk → l.removed ≡ false → IsUnchanged before now;
      idle : l.dry_run ≡ true → l.removed ≡ false;
      dry : g.D.Disk.tells l.disk → l.dry_run ≡ true → IsUnchanged before now;
      failures : g.D.Disk.tells l.disk → IsSound before
          → (g.W.Output.state l.output).failures ≡ (g.W.Output.state l.fn.output).failures;
    }
