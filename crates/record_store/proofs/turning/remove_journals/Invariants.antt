use Rattle.std.proofs.Common.{◌≡◌, ℕ, take}
use Rattle.std.specs.Prelude.{Contains, None}
use Rattle.disk.specs.Calls.{AtMostSyncs}
use Rattle.record_store.specs.Shown.{journal_shown}
use Rattle.record_store.proofs.Successions.{Shed}
use Rattle.record_store.proofs.turning.remove_journals.Given as goal

abbrev pub invariant-loop-number : goal.invariant-loop-number
invariant-loop-number g l = record {
  syncs : AtMostSyncs 0 (g.D.Disk.syncs l.fn.disk) (g.D.Disk.syncs l.disk);
  told : g.D.Disk.tells l.disk → g.D.Disk.tells l.fn.disk;
  shed : g.D.Disk.tells l.disk
      → Shed (g.D.Disk.state l.fn.disk) (g.D.Disk.state l.disk) (take l.number-index l.numbers);
  gone : g.D.Disk.tells l.disk → (n : ℕ) → Contains (take l.number-index l.numbers) n
      → journal_shown (g.D.Disk.state l.disk) n ≡ None;
}
