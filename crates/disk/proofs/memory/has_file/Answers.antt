use Rattle.std.proofs.Common.{◌∙◌, ap, sym}
use Rattle.std.specs.Prelude.{is_some}
use Rattle.disk.specs.declared.memory.MemoryEntry.{MemoryEntry}
use Rattle.disk.proofs.FileChanges.{has_file, no_file}
use Rattle.disk.proofs.memory.has_file.Goals as goal

pub returns-in-Some : goal.returns-in-Some
returns-in-Some c =
    let e = c.index-entries-i.result in
    has_file c.args.entries.now c.args.name.now c.in-Some.i e c.in-Some.ensures.found c.index-entries-i.is
    c.is_some.result
    (c.is_some.ensures ∙ ap (λ (m : MemoryEntry). is_some m.now) (sym c.index-entries-i.is))

pub returns-in-None : goal.returns-in-None
returns-in-None c =
    let none = no_file c.args.entries.now c.args.name.now c.in-None.ensures.none in
    (λ no. absurd (cc no), λ some. absurd (cc (none, some)))
