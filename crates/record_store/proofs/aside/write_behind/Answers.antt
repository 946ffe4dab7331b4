use Rattle.record_store.proofs.Asides.{written_behind}
use Rattle.record_store.proofs.aside.write_behind.Goals as goal

pub returns-in-Ok-clause-written : goal.returns-in-Ok-clause-written
returns-in-Ok-clause-written g c tells =
    written_behind (g.D.Disk.state c.args.disk.now) (g.D.Disk.state c.make.new.disk) (g.D.Disk.state c.append.new.self)
    c.args.name.now c.args.octets.now (c.in_ok-is_new.ensures.shown (c.append.ensures.told tells))
    (c.in-Ok.ensures.done tells)
