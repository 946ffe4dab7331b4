use Rattle.std.proofs.Common.{◌∷◌, ap, Err}
use Rattle.archive_text.proofs.Places.{adds_has}
use Rattle.archive_spill.proofs.RunLists.{kept_added, on_ok}
use Rattle.archive_spill.proofs.spilled.SpilledArchive+P+P+Run.add_view.Goals as goal

pub returns-in-Ok-clause-ok : goal.returns-in-Ok-clause-ok
returns-in-Ok-clause-ok g c = on_ok c.keep_room.result _ _
    (λ ok b shown es h. let v = c.in-Ok.ensures.ok b shown in let a = v.2 in (
      v.0,
      a.0,
      v.1,
      a.1,
      ok (a.0 ∷ es) (record {
        keeps = record {
          told = h.keeps.told;
          kept = kept_added _ _ _ es a.0 (adds_has a.0 _ _ _ a.2) h.keeps.kept;
        };
        sound = h.sound;
      }),
    )) c.keep_room.ensures.ok

pub returns-in-Err-TooLong-clause-long : goal.returns-in-Err-TooLong-clause-long
returns-in-Err-TooLong-clause-long g c = λ _. c.in-Err-TooLong.ensures.long (ap Err c.in-Err-TooLong.field-0-is)
