-- What a fault of a join is.
use Rattle.archive_join.specs.declared.fault.JoinFault.{JoinFault}
use Rattle.archive_join.specs.declared.fault.JoinFault.TheVariants.{Archive, Read, Endless, Write}
use Rattle.archive_join.specs.declared.fault.JoinFault.TheVariants.{Memory as join_Memory}
use Rattle.archive_spill.specs.declared.fault.SpillFault.{SpillFault}
use Rattle.archive_spill.specs.declared.fault.SpillFault.TheVariants.{Spill, Memory}

-- where a fault of its output is this one: of each input that it is a fault of the spill
abbrev pub fault_of : JoinFault → SpillFault → SpillFault
fault_of (Archive input fault) told = Spill
fault_of (Read input) told = Spill
fault_of (Endless input) told = Spill
fault_of (Write sent) told = told
fault_of join_Memory told = Memory
