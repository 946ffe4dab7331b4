use Rattle.store_statistics.proofs.Surveying.{damaged_listed}
use Rattle.store_statistics.proofs.survey.add_file.Goals as goal

pub returns-in_ok-push-in-Damaged-clause-listed : goal.returns-in_ok-push-in-Damaged-clause-listed
returns-in_ok-push-in-Damaged-clause-listed g c t =
    damaged_listed (g.F.Folder.files c.args.folder.now) c.args.name.now c.args.survey.now.files.items
    c.args.survey.now.damaged.items c.push-in-Damaged.new.self.items
    (record { name = c.in_ok-name-in-Damaged.name; damage = c.in-Damaged.damage })
    c.in_ok-push-in-Damaged.ensures.items c.in_ok-name-in-Damaged.ensures
