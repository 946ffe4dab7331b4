use Rattle.std.proofs.Common.{List, ℕ, arith, [], ◌∷◌, ◌++◌, take, refl, sym, ap, subst, ◌∙◌}
use Rattle.std.proofs.lemmas.List.{take_all, take_more}
use Rattle.disk.specs.States.{Files}
use Rattle.store_reading.specs.Journals.{Adds, HasInMemory, NamedMemoryHas}
use Rattle.store_reading.specs.Sources.{set_entries}
use Rattle.store_reading.proofs.Batched.{names_more, names_none}
use Rattle.store_reading.specs.Whole.{IsWholeInMemory, NamedMemoryIsWhole}
use Rattle.store_reading.proofs.Whole.{more_whole}
use Rattle.store_reading.proofs.memory.add_files.Goals as goal

pub names-init : goal.names-init
names-init g c = record {
  told = λ t. t;
  same = λ t. refl;
  adds = λ t. names_none (g.F.Folder.files c.args.folder.now) c.args.range.now (set_entries c.args.set.now);
  whole = λ t name has. absurd (omega (arith, has.1));
}

pub names-preserved : goal.names-preserved
names-preserved g c =
    let first = take c.names.name-index c.args.names.now in
    let files = g.F.Folder.files c.args.folder.now in
    let range = c.args.range.now in
    let old = set_entries c.args.set.now in
    let mid = set_entries c.names.set in
    let new = set_entries c.add_file.new.set in
    let more = take_more c.args.names.now c.names.name-index c.name-item.result c.names-test.true
    ∙ ap (λ (n : List ℕ). first ++ n ∷ []) (sym c.name-item.is) in
    record {
      told = λ t. c.names.invariant.told (c.add_file.ensures.told t);
      same = λ t. c.add_file.ensures.same t ∙ c.names.invariant.same (c.add_file.ensures.told t);
      adds = λ t. let before = c.add_file.ensures.told t in
          subst (λ (l : List (List ℕ)). Adds old new (NamedMemoryHas files range l)) (sym more)
          (names_more files range first c.name-item.result old mid new (c.names.invariant.adds before)
          (subst (λ (f : Files). Adds mid new (HasInMemory f range c.name-item.result)) (c.names.invariant.same before)
          (c.in_ok-add_file.ensures.adds t)));
      whole = λ t. let before = c.add_file.ensures.told t in
          subst (λ (l : List (List ℕ)). NamedMemoryIsWhole files l) (sym more)
          (more_whole (IsWholeInMemory files) first c.name-item.result (c.names.invariant.whole before)
          (subst (λ (f : Files). IsWholeInMemory f c.name-item.result) (c.names.invariant.same before)
          (c.in_ok-add_file.ensures.whole t)));
    }

pub returns-clause-adds : goal.returns-clause-adds
returns-clause-adds g c t =
    subst (λ (l : List (List ℕ)). Adds (set_entries c.args.set.now) (set_entries c.names.set)
    (NamedMemoryHas (g.F.Folder.files c.args.folder.now) c.args.range.now l))
    (take_all c.names.name-index c.args.names.now c.names-test.false) (c.names.invariant.adds t)

pub returns-clause-whole : goal.returns-clause-whole
returns-clause-whole g c t =
    subst (λ (l : List (List ℕ)). NamedMemoryIsWhole (g.F.Folder.files c.args.folder.now) l)
    (take_all c.names.name-index c.args.names.now c.names-test.false) (c.names.invariant.whole t)
