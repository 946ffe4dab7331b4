use Rattle.std.proofs.Common.{◌≡◌, [], ◌++◌, List, ℕ, arith, length, refl, rules, subst, take}
use Rattle.std.proofs.KnownBytes.{Consumes-nil, Consumes-trans}
use Rattle.sha2.specs.Hashers.{Holds256}
use Rattle.store_reading.specs.Damages.{position}
use Rattle.store_backup.specs.Drafts.{IsDrafted}
use Rattle.store_backup.proofs.Placing.{others_then}
use Rattle.store_backup.proofs.Transferring.{counted_more, end_read}
use Rattle.store_backup.proofs.transfer.transfer_octets.Goals as goal

pub loop-turn-init : goal.loop-turn-init
loop-turn-init g c = record {
  told = λ t. t;
  others = λ t other apart. refl;
  read = record {
    done = [];
    given = Consumes-nil (g.R.Input.state c.args.reader.now).left;
    hashed = c.new-hasher.ensures;
    count = omega arith;
    written = λ t drafted. drafted;
  };
}

pub loop-turn-preserved : goal.loop-turn-preserved
loop-turn-preserved g c =
    let inv = c.loop-turn.invariant in
    let zero = g.D.Disk.state c.args.target.now in
    let one = g.D.Disk.state c.loop-turn.target in
    let two = g.D.Disk.state c.push.new.target in
    record {
      told = λ t. inv.told (c.push.ensures.told t);
      others = λ t. others_then zero one two c.args.draft.now (inv.others (c.push.ensures.told t))
          (c.push.ensures.others t);
      read = record {
        done = inv.read.done ++ take c.in-Ok.n c.read.new.buf;
        given = Consumes-trans _ _ _ _ _ inv.read.given (c.in-Ok.ensures.octets);
        hashed = c.update.ensures inv.read.done inv.read.hashed;
        count = counted_more c.loop-turn.octets c.saturating_add-octets.result c.in-Ok.n inv.read.done c.read.new.buf
            inv.read.count c.in-Ok.ensures.within c.saturating_add-octets.ensures;
        written = λ t drafted. c.in_ok-push.ensures.pushed t inv.read.done
            (inv.read.written (c.push.ensures.told t) drafted);
      };
    }

pub returns-in-Err-clause-others : goal.returns-in-Err-clause-others
returns-in-Err-clause-others g c t = c.loop-turn.invariant.others t

pub returns-in-Err-clause-told : goal.returns-in-Err-clause-told
returns-in-Err-clause-told g c t = c.loop-turn.invariant.told t

pub returns-then-n-eq0-clause-written : goal.returns-then-n-eq0-clause-written
returns-then-n-eq0-clause-written g c t text left drafted =
    let inv = c.loop-turn.invariant in
    let at_end = c.in-Ok.ensures.at_end c.if-n-eq0.true (search rules) in
    let same = end_read (g.R.Input.state c.args.reader.now).left (g.R.Input.state c.loop-turn.reader).left
    (g.R.Input.state c.read.new.self).left inv.read.done c.read.new.buf text c.in-Ok.n inv.read.given
    c.in-Ok.ensures.octets c.if-n-eq0.true at_end left in
    subst (IsDrafted (g.D.Disk.state c.loop-turn.target) c.args.draft.now) same (inv.read.written t drafted)

pub returns-then-n-eq0-clause-transfer : goal.returns-then-n-eq0-clause-transfer
returns-then-n-eq0-clause-transfer g c text left =
    let inv = c.loop-turn.invariant in
    let at_end = c.in-Ok.ensures.at_end c.if-n-eq0.true (search rules) in
    let same = end_read (g.R.Input.state c.args.reader.now).left (g.R.Input.state c.loop-turn.reader).left
    (g.R.Input.state c.read.new.self).left inv.read.done c.read.new.buf text c.in-Ok.n inv.read.given
    c.in-Ok.ensures.octets c.if-n-eq0.true at_end left in
    record {
      hex = c.hexadecimal.ensures text (subst (Holds256 c.loop-turn.hasher) same inv.read.hashed);
      octets = subst (λ (l : List ℕ). c.loop-turn.octets ≡ position (length l)) same inv.read.count;
    }

pub returns-then-n-eq0-clause-others : goal.returns-then-n-eq0-clause-others
returns-then-n-eq0-clause-others g c t = c.loop-turn.invariant.others t

pub returns-then-n-eq0-clause-told : goal.returns-then-n-eq0-clause-told
returns-then-n-eq0-clause-told g c t = c.loop-turn.invariant.told t

pub returns-in_err-push-clause-others : goal.returns-in_err-push-clause-others
returns-in_err-push-clause-others g c t =
    others_then (g.D.Disk.state c.args.target.now) (g.D.Disk.state c.loop-turn.target) (g.D.Disk.state c.push.new.target)
    c.args.draft.now (c.loop-turn.invariant.others (c.push.ensures.told t)) (c.push.ensures.others t)

pub returns-in_err-push-clause-told : goal.returns-in_err-push-clause-told
returns-in_err-push-clause-told g c t = c.loop-turn.invariant.told (c.push.ensures.told t)

pub returns-clause-others : goal.returns-clause-others
returns-clause-others g c t = c.loop-turn.invariant.others t

pub returns-clause-told : goal.returns-clause-told
returns-clause-told g c t = c.loop-turn.invariant.told t
