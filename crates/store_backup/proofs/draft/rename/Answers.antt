use Rattle.std.proofs.Common.{sym}
use Rattle.store_backup.proofs.Placing.{renamed_places, unnamed_places}
use Rattle.store_backup.proofs.draft.rename.Goals as goal

pub returns-in-Ok-clause-placed : goal.returns-in-Ok-clause-placed
returns-in-Ok-clause-placed g c tells files text whole free =
    renamed_places files (g.D.Disk.state c.args.target.now) (g.D.Disk.state c.rename.new.self) c.args.draft.now
    c.args.name.now text whole free ((c.in-Ok.ensures.done tells).1 (λ same. free.apart (sym same)))

pub returns-in-Err-clause-placed : goal.returns-in-Err-clause-placed
returns-in-Err-clause-placed g c tells files text whole free =
    unnamed_places files (g.D.Disk.state c.args.target.now) (g.D.Disk.state c.rename.new.self) c.args.draft.now
    c.args.name.now text c.in-Err.fault whole free (c.in-Err.ensures.done tells)
