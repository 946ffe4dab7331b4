use Rattle.std.proofs.Common.{List, map, ◌∙◌, ap}
use Rattle.std.specs.Prelude.{Option, None, false}
use Rattle.std.specs.Option.{option_map}
use Rattle.disk.specs.Memory.{lookup, file_of}
use Rattle.disk.specs.declared.memory_file.MemoryFile.{MemoryFile}
use Rattle.disk.specs.declared.memory.MemoryEntry.{MemoryEntry}
use Rattle.disk.proofs.Lookups.{lookup_empty}
use Rattle.disk.proofs.memory.place.Goals as goal

pub returns-clause-same : goal.returns-clause-same
returns-clause-same c other =
    ap (λ (entries : List MemoryEntry). lookup entries other) c.in_ok-push.ensures.items
    ∙ lookup_empty c.args.entries.now.items _ other
    (ap (λ (past : List (Option MemoryFile)). record
    { now = None; past = map (option_map file_of) past; moved = false }) c.new.ensures.items)
