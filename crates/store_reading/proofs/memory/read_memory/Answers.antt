use Rattle.std.proofs.Common.{List, ℕ, subst}
use Rattle.disk.specs.States.{Files}
use Rattle.store_reading.specs.Folders.{AreNamesOf}
use Rattle.store_reading.specs.Journals.{Adds, NamedMemoryHas}
use Rattle.store_reading.specs.Sources.{set_entries}
use Rattle.store_reading.proofs.Batched.{text_of_memory}
use Rattle.store_reading.specs.Whole.{NamedMemoryIsWhole}
use Rattle.store_reading.proofs.Whole.{journals_whole, mixed_whole, on_ok}
use Rattle.store_reading.proofs.memory.read_memory.Goals as goal

pub returns-in-Ok-clause-read : goal.returns-in-Ok-clause-read
returns-in-Ok-clause-read g c t =
    let listing = c.add_files.ensures.told t in
    let before = c.in_ok-names.ensures.told listing in
    let files = g.F.Folder.files c.args.folder.now in
    let range = c.args.range.now in
    let names = c.in_ok-names.names.items in
    let old = set_entries c.new-set.result in
    let new = set_entries c.add_files.new.set in
    text_of_memory files range names old new c.set_text.result
    (subst (λ (f : Files). AreNamesOf f names) (c.listings.invariant.same before) (c.in_ok-names.ensures.names listing))
    c.new-set.ensures
    (subst (λ (f : Files). Adds old new (NamedMemoryHas f range names)) (c.listings.invariant.same before)
    (subst (λ (f : Files). Adds old new (NamedMemoryHas f range names)) (c.in_ok-names.ensures.same listing)
    (subst (λ (ns : List (List ℕ)). Adds old new (NamedMemoryHas (g.F.Folder.files c.list.new.folder) range ns))
    c.deref.ensures.value (c.in-Ok.ensures.adds t))))
    c.set_text.ensures.archive c.set_text.ensures.text

pub returns-in-Ok-clause-journals : goal.returns-in-Ok-clause-journals
returns-in-Ok-clause-journals g c = on_ok c.set_text.result (λ t.
    let listing = c.add_files.ensures.told t in
    let before = c.in_ok-names.ensures.told listing in
    let names = c.in_ok-names.names.items in
    journals_whole (g.F.Folder.files c.args.folder.now) names
    (subst (λ (f : Files). AreNamesOf f names) (c.listings.invariant.same before) (c.in_ok-names.ensures.names listing))
    (subst (λ (f : Files). NamedMemoryIsWhole f names) (c.listings.invariant.same before)
    (subst (λ (f : Files). NamedMemoryIsWhole f names) (c.in_ok-names.ensures.same listing)
    (subst (NamedMemoryIsWhole (g.F.Folder.files c.list.new.folder)) c.deref.ensures.value (c.in-Ok.ensures.whole t)))))

pub returns-in-Ok-clause-mixed : goal.returns-in-Ok-clause-mixed
returns-in-Ok-clause-mixed g c = on_ok c.set_text.result (λ t.
    let listing = c.add_files.ensures.told t in
    let before = c.in_ok-names.ensures.told listing in
    let names = c.in_ok-names.names.items in
    mixed_whole (g.F.Folder.files c.args.folder.now) names
    (subst (λ (f : Files). AreNamesOf f names) (c.listings.invariant.same before) (c.in_ok-names.ensures.names listing))
    (subst (λ (f : Files). NamedMemoryIsWhole f names) (c.listings.invariant.same before)
    (subst (λ (f : Files). NamedMemoryIsWhole f names) (c.in_ok-names.ensures.same listing)
    (subst (NamedMemoryIsWhole (g.F.Folder.files c.list.new.folder)) c.deref.ensures.value (c.in-Ok.ensures.whole t)))))
