use Rattle.std.proofs.Common.{◌≡◌, ◌↔◌, ℕ, List, ◌++◌, [], ◌∷◌, take, Vec, Global, sym, ◌∙◌, ap, subst}
use Rattle.disk.specs.Memory.{lookup}
use Rattle.disk.specs.declared.memory.MemoryEntry.{MemoryEntry}
use Rattle.std.specs.Prelude.{Contains, IsSome}
use Rattle.disk.proofs.Named.{AreNamesOf, one_more, no_more, taken, all_named}
use Rattle.disk.proofs.memory.MemoryDiskDisk.names.Goals.{then-has_file+in_ok-copy+in_ok-push, else-has_file}
use Rattle.disk.proofs.memory.MemoryDiskDisk.names.Goals as goal

pub loop-entry-preserved : goal.loop-entry-preserved
loop-entry-preserved c =
    let all = c.deref-entry-items.result.now in
    let e = c.entry-item.result in
    let same = c.deref.ensures.value ∙ sym c.deref-entry-items.ensures.value in
    taken all c.loop-entry.entry-index e c.if-has_file.names.items c.loop-entry-test.true c.entry-item.is
    (elim c.if-has_file.branch [
      | then-has_file+in_ok-copy+in_ok-push w ↦
          let some = subst (λ (l : List MemoryEntry). IsSome (lookup l e.name).now) same
          (c.has_file.ensures.0 w.if-has_file.true) in
          let items : c.if-has_file.names.items ≡ c.loop-entry.names.items ++ e.name ∷ [] =
          ap (λ (v : Vec (List ℕ) Global). v.items) w.names-is ∙ w.in_ok-push.ensures.items ∙ ap
          (λ (n : List ℕ). c.loop-entry.names.items ++ n ∷ []) w.in_ok-copy.ensures in
          subst (AreNamesOf all (take c.loop-entry.entry-index all ++ e ∷ [])) (sym items)
          (one_more all (take c.loop-entry.entry-index all) e c.loop-entry.names.items c.loop-entry.invariant some)
      | else-has_file w ↦
          let none : IsSome (lookup all e.name).now → ⊥ = λ some.
          let yes = c.has_file.ensures.1 (subst (λ (l : List MemoryEntry). IsSome (lookup l e.name).now) (sym same)
          some) in
          absurd (cc (yes, w.if-has_file.false)) in
          subst (AreNamesOf all (take c.loop-entry.entry-index all ++ e ∷ []))
          (ap (λ (v : Vec (List ℕ) Global). v.items) (sym w.names-is))
          (no_more all (take c.loop-entry.entry-index all) e c.loop-entry.names.items c.loop-entry.invariant none)
    ])

pub returns-clause-names : goal.returns-clause-names
returns-clause-names c _ _ =
    subst (λ (all : List MemoryEntry). (name : List ℕ)
    → Contains c.loop-entry.names.items name ↔ IsSome (lookup all name).now) c.deref-entry-items.ensures.value
    (all_named c.deref-entry-items.result.now c.loop-entry.entry-index c.loop-entry.names.items c.loop-entry-test.false
    c.loop-entry.invariant)
