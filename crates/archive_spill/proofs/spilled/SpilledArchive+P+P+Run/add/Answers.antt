use Rattle.std.proofs.Common.{◌∷◌}
use Rattle.archive_text.proofs.Places.{adds_has}
use Rattle.archive_spill.proofs.RunLists.{kept_added, on_ok}
use Rattle.archive_spill.proofs.spilled.SpilledArchive+P+P+Run.add.Goals as goal

pub returns-in-Ok-clause-ok : goal.returns-in-Ok-clause-ok
returns-in-Ok-clause-ok g c = on_ok c.keep_room.result _ _
    (λ ok es h. let a = c.in-Ok.ensures.ok in (
      a.0,
      a.1,
      ok (a.0 ∷ es) (record {
        keeps = record {
          told = h.keeps.told;
          kept = kept_added _ _ _ es a.0 (adds_has a.0 _ _ _ a.2) h.keeps.kept;
        };
        sound = h.sound;
      }),
    )) c.keep_room.ensures.ok
