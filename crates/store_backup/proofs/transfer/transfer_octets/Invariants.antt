use Rattle.std.proofs.Common.{[], List, ℕ}
use Rattle.sha2.specs.Hashers.{Holds256}
use Rattle.journal.specs.Journals.{KeepsOthers}
use Rattle.store_backup.specs.Drafts.{IsDrafted}
use Rattle.store_backup.proofs.Transferring.{HasRead}
use Rattle.store_backup.proofs.transfer.transfer_octets.Given as goal

abbrev pub invariant-loop-turn : goal.invariant-loop-turn
invariant-loop-turn g l = record {
  told : g.D.Disk.tells l.target → g.D.Disk.tells l.fn.target;
  others : g.D.Disk.tells l.target → KeepsOthers (g.D.Disk.state l.fn.target) (g.D.Disk.state l.target) l.draft;
  read : HasRead (g.R.Input.state l.fn.reader).left (g.R.Input.state l.reader).left (Holds256 l.hasher) l.octets
      (λ (done : List ℕ). g.D.Disk.tells l.target → IsDrafted (g.D.Disk.state l.fn.target) l.draft []
      → IsDrafted (g.D.Disk.state l.target) l.draft done);
}
