-- The lines of a backup.
use Rattle.std.specs.Prelude.{ℕ, ◌+◌, ◌-◌, ◌^◌, min, List, [], ◌∷◌, ◌++◌, codes, decimal, length}
use Rattle.store_backup.specs.declared.outcome.Backup.{Backup}
use Rattle.store_backup.specs.declared.outcome.CopiedFile.{CopiedFile}
use Rattle.store_engine.specs.Lines.{damage_lines}

-- the octets of all copies
abbrev pub sum_of : List CopiedFile → ℕ
sum_of [] = 0
sum_of (c ∷ cs) = c.octets + sum_of cs

-- the same, kept at the largest value
abbrev pub octets_of : List CopiedFile → ℕ
octets_of cs = min (sum_of cs) (2 ^ 64 - 1)

-- how many files were copied, and how many octets they have
abbrev pub copied_line : List CopiedFile → List ℕ
copied_line cs =
    codes "copied " ++ decimal (length cs) ++ codes " files " ++ decimal (octets_of cs) ++ codes " octets\n"

-- a line on each damaged file, and one on what was copied
abbrev pub backup_lines : Backup → List ℕ
backup_lines b = damage_lines b.damaged.items ++ copied_line b.copied.items
