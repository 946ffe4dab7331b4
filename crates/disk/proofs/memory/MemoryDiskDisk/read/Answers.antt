use Rattle.std.proofs.Common.{subst}
use Rattle.disk.specs.Memory.{IsAbsent, IsFirst}
use Rattle.disk.proofs.FileChanges.{read_file, read_none, read_missing}
use Rattle.disk.proofs.memory.MemoryDiskDisk.read.Goals as goal

pub returns-in_default-clause-done : goal.returns-in_default-clause-done
returns-in_default-clause-done c _ =
    read_missing c.args.self.now.entries.items c.args.name.now c.args.at c.args.buf.now
    (subst (IsAbsent c.args.name.now) c.deref.ensures.value c.in_default.ensures.none)

pub returns-in-Some-now-clause-done : goal.returns-in-Some-now-clause-done
returns-in-Some-now-clause-done c _ =
    let first = subst (λ entries. IsFirst entries c.args.name.now c.in-Some.i) c.deref.ensures.value
    c.in-Some.ensures.found in
    read_file c.args.self.now.entries.items c.args.name.now c.in-Some.i c.index.result.now first c.index.ensures
    c.in-Some-now.file c.args.at c.read.new.buf c.read.result c.in-Some-now.is c.read.ensures.gives

pub returns-in-None-clause-done : goal.returns-in-None-clause-done
returns-in-None-clause-done c _ =
    let first = subst (λ entries. IsFirst entries c.args.name.now c.in-Some.i) c.deref.ensures.value
    c.in-Some.ensures.found in
    read_none c.args.self.now.entries.items c.args.name.now c.in-Some.i c.index.result.now first c.index.ensures
    c.args.at c.args.buf.now c.in-None.is
