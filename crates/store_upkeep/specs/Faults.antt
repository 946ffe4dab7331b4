-- Which fault of a compaction is told.
use Rattle.std.specs.Prelude.{◌≡◌, ◌⊎◌, ℕ, List}
use Rattle.store_reading.specs.declared.fault.CheckFault.{CheckFault}
use Rattle.store_reading.specs.declared.fault.CheckFault.TheVariants.{Damaged as check_Damaged, Input, Memory}
use Rattle.store_reading.specs.declared.fault.ReadFault.{ReadFault}
use Rattle.store_reading.specs.declared.fault.ReadFault.TheVariants.{Damaged as read_Damaged, Memory as read_Memory}
use Rattle.store_reading.specs.declared.fault.ReadFault.TheVariants.{Read as read_Read}
use Rattle.store_upkeep.specs.declared.compact_fault.CompactFault.{CompactFault}
use Rattle.store_upkeep.specs.declared.compact_fault.CompactFault.TheVariants.{Damaged, Read}

-- a fault of reading, as one of a compaction
abbrev pub read_told : ReadFault → CompactFault
read_told (read_Damaged name fault) = Damaged name fault
read_told fault = Read fault

-- what a check of the file of a name found
abbrev pub check_told : List ℕ → CheckFault → CompactFault
check_told name (check_Damaged damage) = Damaged name damage
check_told name (Input fault) = Read (read_Read name fault)
check_told name Memory = Read read_Memory

-- this fault is told, or that memory ran out
abbrev pub IsOrNoMemory : CompactFault → CompactFault → Type 0
IsOrNoMemory fault told = (told ≡ fault) ⊎ (told ≡ Read read_Memory)
