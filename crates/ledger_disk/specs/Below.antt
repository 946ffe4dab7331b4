-- What a disk that keeps a ledger has.
use Rattle.std.specs.Prelude.{Option}
use Rattle.ledger.specs.declared.standing.Standing.{Standing}
use Rattle.ledger_disk.specs.declared.ledger_disk.LedgerDisk.{LedgerDisk}

-- the disk underneath
abbrev pub below : {D T : Type 0} → LedgerDisk D T → D
below disk = disk.keeper.writer.disk

-- what the ledger lists, where it was read
abbrev pub known : {D T : Type 0} → LedgerDisk D T → Option Standing
known disk = disk.keeper.standing
