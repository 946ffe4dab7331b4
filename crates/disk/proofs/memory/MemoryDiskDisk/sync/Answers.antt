use Rattle.std.proofs.Common.{subst}
use Rattle.disk.specs.Files.{settled}
use Rattle.disk.specs.Memory.{IsAbsent, IsFirst}
use Rattle.disk.proofs.FileChanges.{missing, file_changes, has_no_cause}
use Rattle.disk.proofs.memory.MemoryDiskDisk.sync.Goals as goal

pub returns-in_default-clause-done : goal.returns-in_default-clause-done
returns-in_default-clause-done c _ = missing c.args.self.now.entries.items c.args.name.now _
    (subst (IsAbsent c.args.name.now) c.deref.ensures.value c.in_default.ensures.none)

pub returns-clause-done : goal.returns-clause-done
returns-clause-done c _ =
    let first = subst (λ entries. IsFirst entries c.args.name.now c.in-Some.i) c.deref.ensures.value
    c.in-Some.ensures.found in
    file_changes c.args.self.now.entries.items c.args.name.now c.in-Some.i c.index_mut.result.now c.sync_in.new.entry
    first c.index_mut.ensures.value c.sync_in.ensures.name (λ file. settled file.shown) _ c.sync_in.result
    c.sync_in.ensures.done

pub returns-clause-cause : goal.returns-clause-cause
returns-clause-cause c = has_no_cause c.sync_in.result c.sync_in.ensures.sound
