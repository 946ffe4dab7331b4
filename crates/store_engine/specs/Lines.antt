-- The lines on a store's files.
use Rattle.std.specs.Prelude.{ℕ, List, ◌++◌, codes, decimal, flat_map}
use Rattle.archive_reports.specs.FaultLines.{fault_line}
use Rattle.record_store.specs.declared.journal_damage.JournalDamage.{JournalDamage}
use Rattle.record_store.specs.declared.journal_damage.JournalDamage.TheVariants.{Archive as No_entry, Checksum, Hidden}
use Rattle.store_reading.specs.declared.fault.FileFault.{FileFault}
use Rattle.store_reading.specs.declared.fault.FileFault.TheVariants.{Archive, Digest, Journal, OtherDay}
use Rattle.store_upkeep.specs.declared.damage.DamagedFile.{DamagedFile}

-- what begins at a position of a file
abbrev pub position_line : List ℕ → List ℕ → ℕ → List ℕ
position_line name words at = (name ++ words) ++ decimal at ++ codes "\n"

-- an archive that is another than its name says
abbrev pub digest_line : List ℕ → List ℕ
digest_line name = name ++ codes " digest\n"

-- what is wrong with the journal of a name, and where: an entry; what stands where the seal of a batch has to be; or
-- where batches are hidden
abbrev pub damage_line : List ℕ → JournalDamage → List ℕ
damage_line name (No_entry fault) = fault_line name fault
damage_line name (Checksum at) = position_line name (codes " checksum ") at
damage_line name (Hidden at) = position_line name (codes " hidden ") at

-- what is wrong with the file of a name, and where
abbrev pub file_line : List ℕ → FileFault → List ℕ
file_line name (Archive fault) = fault_line name fault
file_line name (OtherDay at) = position_line name (codes " day ") at
file_line name Digest = digest_line name
file_line name (Journal damage) = damage_line name damage

-- a line on each damaged file, in their order
abbrev pub damage_lines : List DamagedFile → List ℕ
damage_lines ds = flat_map (λ (d : DamagedFile). file_line d.name d.damage) ds
