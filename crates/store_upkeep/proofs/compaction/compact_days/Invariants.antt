use Rattle.std.proofs.Common.{List, ℕ, take}
use Rattle.std.specs.Prelude.{Contains}
use Rattle.journal.specs.Journals.{IsSound}
use Rattle.record_store.specs.Names.{IsSegment}
use Rattle.store_reading.specs.Days.{IsPeriodText}
use Rattle.store_upkeep.specs.Compaction.{AreListed, GoesOn, HasAtMost, KeepsDamagedDays, KeepsOtherFiles}
use Rattle.store_upkeep.specs.Compaction.{KeepsSet}
use Rattle.store_upkeep.specs.declared.compaction.TheConstants.{SEGMENTS_MAX}
use Rattle.store_upkeep.proofs.compaction.compact_days.Given as goal

abbrev pub invariant-names : goal.invariant-names
invariant-names g l =
    let before = g.D.Disk.state l.fn.disk in
    let now = g.D.Disk.state l.disk in
    record {
      told : g.D.Disk.tells l.disk → g.D.Disk.tells l.fn.disk;
      set : g.D.Disk.tells l.disk → IsSound before → AreListed before l.names → KeepsSet before now;
      others : g.D.Disk.tells l.disk → KeepsOtherFiles before now;
      damaged : g.D.Disk.tells l.disk → IsSound before → AreListed before l.names → KeepsDamagedDays before now;
      goes_on : g.D.Disk.tells l.disk → IsSound before → AreListed before l.names
          → GoesOn SEGMENTS_MAX now l.names l.last;
      few : g.D.Disk.tells l.disk → IsSound before → AreListed before l.names → (day name : List ℕ)
          → Contains (take l.name-index l.each) name → IsPeriodText day → IsSegment day name
          → HasAtMost SEGMENTS_MAX now day;
    }
