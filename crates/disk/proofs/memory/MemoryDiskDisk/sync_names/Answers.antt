use Rattle.std.proofs.Common.{◌≡◌, List, length, refl, ◌∙◌, ap, subst, arith}
use Rattle.std.proofs.lemmas.List.{with_items_is}
use Rattle.disk.specs.Memory.{lookup, AreKept}
use Rattle.disk.specs.declared.memory.MemoryEntry.{MemoryEntry}
use Rattle.disk.proofs.Lookups.{lookup_kept}
use Rattle.disk.proofs.memory.MemoryDiskDisk.sync_names.Goals as goal

pub returns-clause-done : goal.returns-clause-done
returns-clause-done c _ =
    let old = c.args.self.now.entries in
    let same_len : length c.settle_all.new.entries ≡ old.len = omega
    (arith, c.settle_all.auto.entries, c.deref_mut.ensures.len) in
    let are = subst (λ (entries : List MemoryEntry). AreKept entries c.settle_all.new.entries)
    c.deref_mut.ensures.value c.settle_all.ensures in
    record {
      entries = λ name. ap (λ (entries : List MemoryEntry). lookup entries name)
          (with_items_is old c.settle_all.new.entries same_len) ∙ lookup_kept old.items c.settle_all.new.entries are
          name;
      lost = refl;
    }
