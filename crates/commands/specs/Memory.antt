-- Files in memory.
use Rattle.std.specs.Prelude.{ℕ, List, [], ◌∷◌, Option, None, Some, if◌then◌else◌}
use Rattle.std.specs.Str.{bytes_eq}
use Rattle.commands.specs.declared.memory.MemoryFile.{MemoryFile}

-- the octets of the first file with this name
abbrev pub stored_in : List ℕ → List MemoryFile → Option (List ℕ)
stored_in name [] = None
stored_in name (file ∷ files) = if bytes_eq file.name.now name then Some file.octets.now else stored_in name files
