use Rattle.std.proofs.Common.{◌++◌, List, ℕ, refl, ap, subst, ◌∙◌}
use Rattle.octet_devices.specs.Held.{Carries, StopsWithin}
use Rattle.archive_streams.specs.declared.entry.EntryText.{EntryText}
use Rattle.archive_streams.proofs.Halts.{greater_halts}
use Rattle.archive_streams.proofs.Merges.{write_greater}
use Rattle.archive_streams.proofs.merge.Merge.write_right.Goals as goal

pub returns-in-Ok-clause-written : goal.returns-in-Ok-clause-written
returns-in-Ok-clause-written g c = λ dl el dr er start above s.
    let written = c.deref.ensures.value ∙ ap (λ (t : EntryText). t.text.items) c.swap.ensures.x_after in
    let taken = (g.W.Output.state c.put.new.writer).taken in
    write_greater c.args.self.now _ dl el dr er start _ _ c.requires.some above c.swap.ensures.x_after refl refl refl
    refl (λ text h. subst (λ (u : List ℕ). Carries start taken c.put.new.self (text ++ u)) written
    (c.in-Ok.ensures.puts.carries start text h)) s

pub returns-in-Err-clause-halted : goal.returns-in-Err-clause-halted
returns-in-Err-clause-halted g c = λ dl el dr er start above s.
    let written = c.deref.ensures.value ∙ ap (λ (t : EntryText). t.text.items) c.swap.ensures.x_after in
    let taken = (g.W.Output.state c.put.new.writer).taken in
    let sent = c.in-Err.field-0.sent in
    greater_halts c.args.self.now _ dl el dr er start _ _ sent c.requires.steady.room c.requires.some above
    (λ text h. subst (λ (u : List ℕ). StopsWithin start taken (text ++ u) sent) written
    (c.in-Err.ensures.puts.stops start text h)) s
