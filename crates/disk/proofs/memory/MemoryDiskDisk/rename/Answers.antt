use Rattle.std.proofs.Common.{List, ◌∙◌, subst}
use Rattle.std.proofs.lemmas.Result.{err_from_is_err_and}
use Rattle.disk.specs.Memory.{IsAbsent, IsFirst}
use Rattle.disk.specs.declared.memory.MemoryEntry.{MemoryEntry}
use Rattle.disk.proofs.FileChanges.{no_file, some_file}
use Rattle.disk.proofs.Renaming.{no_source, no_memory, names_differ, renamed_from}
use Rattle.disk.proofs.memory.MemoryDiskDisk.rename.Goals as goal

pub returns-in_default-clause-done : goal.returns-in_default-clause-done
returns-in_default-clause-done c _ =
    let ys = c.place.new.entries.items in
    no_source c.args.self.now.entries.items ys c.args.from.now c.args.to.now c.place.ensures.same
    (no_file ys c.args.from.now (subst (IsAbsent c.args.from.now) c.deref.ensures.value c.in_default.ensures.none))

pub returns-then-is_none-clause-done : goal.returns-then-is_none-clause-done
returns-then-is_none-clause-done c _ =
    let ys = c.place.new.entries.items in
    let source = subst (λ (l : List MemoryEntry). IsFirst l c.args.from.now c.in-Some.i) c.deref.ensures.value
    c.in-Some.ensures.found in
    no_source c.args.self.now.entries.items ys c.args.from.now c.args.to.now c.place.ensures.same
    (some_file ys c.args.from.now c.in-Some.i c.index.result.now source c.index.ensures ∙ c.if-is_none.ensures)

pub returns-in_err-retire-clause-done : goal.returns-in_err-retire-clause-done
returns-in_err-retire-clause-done c _ =
    let ys = c.place.new.entries.items in
    let fault = err_from_is_err_and c.from_residual-in_err-retire.result c.from_residual-in_err-retire.ensures.1 in
    no_memory c.args.self.now.entries.items ys c.args.from.now c.args.to.now c.in_ok-j.j c.index_mut.result.now
    c.retire.new.entry c.from_residual-in_err-retire.result c.place.ensures.same
    c.in_ok-j.ensures.place c.index_mut.ensures.value c.retire.ensures.name c.in_err-retire.ensures.err fault.0 fault.1
    fault.2

pub returns-clause-done : goal.returns-clause-done
returns-clause-done c _ =
    let xs = c.args.self.now.entries.items in
    let ys = c.place.new.entries.items in
    let source = subst (λ (l : List MemoryEntry). IsFirst l c.args.from.now c.in-Some.i) c.deref.ensures.value
    c.in-Some.ensures.found in
    let some = some_file ys c.args.from.now c.in-Some.i c.index.result.now source c.index.ensures ∙
    c.if-is_none.ensures in
    let e = c.index_mut-2.result.now in
    let f = c.index_mut.result.now in
    let m = c.index_mut-3.result.now in
    let differ = names_differ ys c.args.from.now c.args.to.now c.in-Some.i c.in_ok-j.j e f c.retire.new.entry
    c.take_away-file.new.entry m c.take_away-file.result source c.in_ok-j.ensures.place c.if-i-j.false
    c.index_mut.ensures.value c.retire.ensures.name c.in_ok-retire.ensures.ok c.index_mut-2.ensures.value
    c.take_away-file.ensures.name c.take_away-file.ensures.entry c.take_away-file.ensures.file
    c.index_mut-3.ensures.value in (
      λ is. absurd (differ is),
      λ _. renamed_from ys c.args.from.now c.args.to.now c.in-Some.i c.in_ok-j.j e f c.retire.new.entry
          c.take_away-file.new.entry m c.take_away-file.result source c.in_ok-j.ensures.place c.if-i-j.false
          c.index_mut.ensures.value c.retire.ensures.name c.in_ok-retire.ensures.ok c.index_mut-2.ensures.value
          c.take_away-file.ensures.name c.take_away-file.ensures.entry c.take_away-file.ensures.file
          c.index_mut-3.ensures.value
          xs c.place.ensures.same some,
    )
