use Rattle.std.proofs.Common.{◌≡◌, List, length, sym, subst, arith}
use Rattle.std.proofs.lemmas.List.{with_items_is}
use Rattle.disk.specs.Memory.{lookup, AreLeft, IsLeft}
use Rattle.disk.specs.declared.memory.MemoryEntry.{MemoryEntry}
use Rattle.disk.proofs.Leaving.{lookup_left}
use Rattle.disk.proofs.memory.MemoryDisk.crash.Goals as goal

pub returns : goal.returns
returns c name =
    let old = c.args.self.entries in
    let same_len : length c.crash_all.new.entries ≡ old.len = omega
    (arith, c.crash_all.auto.entries, c.deref_mut.ensures.len) in
    let are = subst (λ (entries : List MemoryEntry). AreLeft entries c.crash_all.new.entries) c.deref_mut.ensures.value
    c.in_ok-crash_all.ensures in
    subst (λ (entries : List MemoryEntry). IsLeft (lookup old.items name) (lookup entries name))
    (sym (with_items_is old c.crash_all.new.entries same_len))
    (lookup_left old.items c.crash_all.new.entries are name)
