use Rattle.std.proofs.Common.{◌∙◌}
use Rattle.record_store.proofs.Anew.{copy_more}
use Rattle.record_store.proofs.renewing.copy.Goals as goal

pub pieces-preserved : goal.pieces-preserved
pieces-preserved g c =
    let zero = g.D.Disk.state c.args.disk.now in
    let one = g.D.Disk.state c.pieces.disk in
    let two = g.D.Disk.state c.read.new.self in
    let three = g.D.Disk.state c.append.new.self in
    record {
      told = λ tells. c.pieces.invariant.told (c.read.ensures.told (c.append.ensures.told tells));
      others = λ tells other apart.
          let told = c.append.ensures.told tells in
          (c.in_ok-append.ensures.done tells).entry.others other apart
          ∙ (c.in_ok-n.ensures.done told).same.entries other
          ∙ c.pieces.invariant.others (c.read.ensures.told told) other apart;
      lost = λ tells.
          let told = c.append.ensures.told tells in
          (c.in_ok-append.ensures.done tells).entry.lost
          ∙ (c.in_ok-n.ensures.done told).same.lost
          ∙ c.pieces.invariant.lost (c.read.ensures.told told);
      copied = λ tells.
          let told = c.append.ensures.told tells in
          let first = c.read.ensures.told told in
          copy_more zero one two c.args.from.now c.args.to.now c.read.new.buf c.pieces.at c.in_ok-n.n
          (c.pieces.invariant.others first) (c.pieces.invariant.lost first) (c.pieces.invariant.copied first)
          (c.in_ok-n.ensures.done told) three (c.in_ok-append.ensures.done tells);
    }
