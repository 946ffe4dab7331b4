use Rattle.std.proofs.Common.{◌++◌, List, ℕ, refl, ap, subst, ◌∙◌}
use Rattle.octet_devices.specs.Held.{Carries, StopsWithin}
use Rattle.archive_streams.specs.declared.entry.EntryText.{EntryText}
use Rattle.archive_streams.proofs.Halts.{equal_halts, less_halts}
use Rattle.archive_streams.proofs.Merges.{write_equal, write_less}
use Rattle.archive_streams.proofs.merge.Merge.write_left.Goals as goal

pub returns-in-Ok-clause-written : goal.returns-in-Ok-clause-written
returns-in-Ok-clause-written g c =
    let written = c.deref.ensures.value ∙ ap (λ (t : EntryText). t.text.items) c.swap.ensures.x_after in
    let taken = (g.W.Output.state c.put.new.writer).taken in
    record {
      less = λ dl el dr er start above s.
          write_less c.args.self.now _ dl el dr er start _ _ c.requires.some above c.swap.ensures.x_after refl refl refl
          refl (λ text h. subst (λ (u : List ℕ). Carries start taken c.put.new.self (text ++ u)) written
          (c.in-Ok.ensures.puts.carries start text h)) s;
      equal = λ dl el dr er start also same s.
          write_equal c.args.self.now _ dl el dr er start _ _ c.requires.some also same c.swap.ensures.x_after refl refl
          refl refl (λ text h. subst (λ (u : List ℕ). Carries start taken c.put.new.self (text ++ u)) written
          (c.in-Ok.ensures.puts.carries start text h)) s;
    }

pub returns-in-Err-clause-halted : goal.returns-in-Err-clause-halted
returns-in-Err-clause-halted g c =
    let written = c.deref.ensures.value ∙ ap (λ (t : EntryText). t.text.items) c.swap.ensures.x_after in
    let taken = (g.W.Output.state c.put.new.writer).taken in
    let sent = c.in-Err.field-0.sent in
    record {
      less = λ dl el dr er start above s.
          less_halts c.args.self.now _ dl el dr er start _ _ sent c.requires.steady.room c.requires.some above
          (λ text h. subst (λ (u : List ℕ). StopsWithin start taken (text ++ u) sent) written
          (c.in-Err.ensures.puts.stops start text h)) s;
      equal = λ dl el dr er start also same s.
          equal_halts c.args.self.now _ dl el dr er start _ _ sent c.requires.steady.room c.requires.some also same
          (λ text h. subst (λ (u : List ℕ). StopsWithin start taken (text ++ u) sent) written
          (c.in-Err.ensures.puts.stops start text h)) s;
    }
