use Rattle.record_store.proofs.Asides.{made_shows, there_shows}
use Rattle.record_store.proofs.aside.make.Goals as goal

pub returns-in-Ok-clause-shown : goal.returns-in-Ok-clause-shown
returns-in-Ok-clause-shown g c tells =
    made_shows (g.D.Disk.state c.args.disk.now) (g.D.Disk.state c.create.new.self) c.args.name.now
    (c.in-Ok.ensures.done tells)

pub returns-in-Err-Exists-clause-shown : goal.returns-in-Err-Exists-clause-shown
returns-in-Err-Exists-clause-shown g c tells =
    let done = c.in-Err-Exists.ensures.done tells in
    there_shows (g.D.Disk.state c.args.disk.now) (g.D.Disk.state c.create.new.self) c.args.name.now done.0
    (done.1 c.in-Err-Exists.field-0-is)
