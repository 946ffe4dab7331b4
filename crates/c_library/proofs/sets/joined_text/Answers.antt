use Rattle.std.proofs.Common.{Some, ap, sym, ◌∙◌}
use Rattle.c_library.proofs.Reading.{join_of}
use Rattle.c_library.proofs.sets.joined_text.Goals as goal

pub returns-in-Ok : goal.returns-in-Ok
returns-in-Ok g c =
    join_of _ _ _ _ _ _ _ _ c.args.left.now c.args.right.now c.into_inner.result.items
    (ap (λ s. s.left) c.new-2.ensures) (ap (λ s. s.left) c.new-3.ensures)
    (ap (λ s. s.taken) c.new-writer.ensures ∙ ap Some c.new.ensures.items) (sym c.into_inner.ensures)
    c.kept_entries_are_archives.ensures.archive c.in-Ok.ensures.outcome
