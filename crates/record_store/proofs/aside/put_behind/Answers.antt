use Rattle.std.proofs.Common.{◌∙◌}
use Rattle.std.proofs.lemmas.Result.{on_ok_weaker}
use Rattle.record_store.proofs.Asides.{behind_aside}
use Rattle.record_store.proofs.aside.put_behind.Goals as goal

pub returns-clause-aside : goal.returns-clause-aside
returns-clause-aside g c =
    on_ok_weaker c.settle.result (λ on_disk tells sound.
    let told = c.settle.ensures.told tells in
    behind_aside (g.D.Disk.state c.args.disk.now) (g.D.Disk.state c.write_behind.new.disk)
    (g.D.Disk.state c.settle.new.disk) c.args.name.now c.args.octets.now (c.in_ok-write_behind.ensures.written told)
    (c.write_behind.ensures.lost told ∙ sound) (on_disk tells))
    c.settle.ensures.on_disk
