use Rattle.std.proofs.Common.{◌≤◌, ◌^◌, inr, arith}
use Rattle.record_store.proofs.Compared.{agree_more, agree_whole, same_then}
use Rattle.record_store.proofs.Differing.{reached_other, reaches_more}
use Rattle.record_store.proofs.keeping.are_same.Goals as goal

pub returns-then-n-eq0-clause-same_octets : goal.returns-then-n-eq0-clause-same_octets
returns-then-n-eq0-clause-same_octets g c _ tells sound =
    let zero = g.D.Disk.state c.args.disk.now in
    let then = g.D.Disk.state c.pieces.disk in
    let told = c.compare_at.ensures.told tells in
    agree_whole zero then c.args.one.now c.args.other.now c.pieces.at c.in-Some.n (c.pieces.invariant.same told)
    c.if-n-eq0.true (c.pieces.invariant.agree told) (rw c.in-Some.is at (c.in_ok-n.ensures.agree tells)) sound

pub pieces-preserved : goal.pieces-preserved
pieces-preserved g c =
    let zero = g.D.Disk.state c.args.disk.now in
    let then = g.D.Disk.state c.pieces.disk in
    let new = g.D.Disk.state c.compare_at.new.disk in
    record {
      syncs = omega (arith, c.pieces.invariant.syncs, c.compare_at.ensures.syncs);
      told = λ tells. c.pieces.invariant.told (c.compare_at.ensures.told tells);
      same = λ tells. same_then zero then new (c.pieces.invariant.same (c.compare_at.ensures.told tells))
          (c.compare_at.ensures.same tells);
      agree = λ tells.
          let told = c.compare_at.ensures.told tells in
          agree_more zero then c.args.one.now c.args.other.now c.pieces.at c.in-Some.n (c.pieces.invariant.same told)
          (c.pieces.invariant.agree told) (rw c.in-Some.is at (c.in_ok-n.ensures.agree tells));
      reaches = λ tells.
          let told = c.compare_at.ensures.told tells in
          reaches_more zero then c.args.one.now c.args.other.now c.pieces.at c.in-Some.n (c.pieces.invariant.same told)
          (c.pieces.invariant.reaches told) (rw c.in-Some.is at (c.in_ok-n.ensures.agree tells));
    }

pub returns-clause-other_octets : goal.returns-clause-other_octets
returns-clause-other_octets g c =
    let long : 2 ^ 62 ≤ c.pieces.at = omega arith in
    inr (λ tells. reached_other (g.D.Disk.state c.args.disk.now) c.args.one.now c.args.other.now c.pieces.at long
    (c.pieces.invariant.reaches tells))
