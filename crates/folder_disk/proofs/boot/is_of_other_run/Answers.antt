use Rattle.folder_disk.proofs.Noted.{other_run}
use Rattle.folder_disk.proofs.boot.is_of_other_run.Goals as goal

pub returns-in-Some : goal.returns-in-Some
returns-in-Some c =
    let both = other_run c.args.note.now c.in-Some.named.now c.args.boot.now c.in-Some.ensures.some in
    let tells = c.is_other_run.ensures in
    (λ on. both.0 (tells.0 on), λ other. tells.1 (both.1 other))
