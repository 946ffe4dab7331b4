use Rattle.std.proofs.Common.{◌≡◌}
use Rattle.archive_streams.specs.Entries.{IsOpen, still_to_come}
use Rattle.store_addition.specs.Adding.{UnderWay}
use Rattle.store_addition.proofs.adding.Adding.add_pieces.Given as goal

abbrev pub invariant-pieces : goal.invariant-pieces
invariant-pieces g l = record {
  unclosed : IsOpen l.self.entries;
  under_way : UnderWay (g.D.Disk.tells l.disk) l.self (g.R.Input.state l.fn.input) (g.R.Input.state l.input)
      (g.D.Disk.state l.fn.disk) (g.D.Disk.state l.disk);
  empty : l.self.octets ≡ 0;
  told : g.D.Disk.tells l.disk → g.D.Disk.tells l.fn.disk;
  failures : (g.R.Input.state l.input).failures ≡ (g.R.Input.state l.fn.input).failures;
}

abbrev pub decreases-pieces : goal.decreases-pieces
decreases-pieces g l = still_to_come l.self.entries
