use Rattle.std.proofs.Common.{subst}
use Rattle.disk.specs.Calls.{Creates}
use Rattle.disk.specs.Memory.{state_of}
use Rattle.std.proofs.Common.{set}
use Rattle.disk.proofs.FileChanges.{same_state, file_made, has_no_cause}
use Rattle.disk.proofs.memory.MemoryDiskDisk.create.Goals as goal

pub returns-clause-done : goal.returns-clause-done
returns-clause-done c _ =
    let made = file_made c.place.new.entries.items c.args.name.now c.in_ok-i.i c.index_mut.result.now
    c.create_in.new.entry c.in_ok-i.ensures.place c.index_mut.ensures.value c.create_in.ensures.name
    c.create_in.result c.create_in.ensures.done in
    subst (λ old. Creates old (state_of (set c.place.new.entries.items c.in_ok-i.i c.create_in.new.entry))
    c.args.name.now c.create_in.result)
    (same_state c.args.self.now.entries.items c.place.new.entries.items c.place.ensures.same) made

pub returns-clause-cause : goal.returns-clause-cause
returns-clause-cause c = has_no_cause c.create_in.result c.create_in.ensures.sound
