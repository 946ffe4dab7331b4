use Rattle.std.proofs.Common.{◌∙◌, ap, inr, refl}
use Rattle.archive_pages.specs.Paged.{entries_in}
use Rattle.archive_spill.proofs.spilled.SpilledArchive+P+P+Run.keep_room.Goals as goal

pub returns-clause-ok : goal.returns-clause-ok
returns-clause-ok g c = λ es h.
    let out = c.in_ok-spill_pages.ensures.ok es (record { told = h.keeps.told; kept = h.keeps.kept }) in
    let full = c.in_ok-join_full.ensures.ok es out in
    record { keeps = record { told = full.told; kept = full.kept }; sound = refl }

pub returns-clause-room : goal.returns-clause-room
returns-clause-room g c = inr (ap entries_in c.in_ok-join_full.ensures.pages ∙ c.in_ok-spill_pages.ensures.none)
