use Rattle.std.proofs.Common.{◌≡◌, ◌∙◌, List, ℕ, Some, drop, length, subst, take}
use Rattle.std.specs.Global.{Global}
use Rattle.std.specs.Prelude.{Vec}
use Rattle.disk.specs.Memory.{shown_now}
use Rattle.journal.specs.Batches.{BeginsWithBatch}
use Rattle.journal.specs.Journals.{IsSound}
use Rattle.store_follow.proofs.Octets.{at_some, shown_by, unchanged_then}
use Rattle.store_follow.proofs.Runs.{next_between}
use Rattle.store_follow.proofs.following.end_of.Goals as goal

pub loop-end-preserved : goal.loop-end-preserved
loop-end-preserved g c =
    let i = c.loop-end.invariant in
    let first = g.D.Disk.state c.args.disk.now in
    let old = g.D.Disk.state c.loop-end.disk in
    let at = c.loop-end.end in
    let name = c.args.name.now in
    let octets = c.in-Some.octets.items in
    let len = c.in-Some-batch_len.len in
    record {
      told = λ tells. i.told (c.in_ok-octets.ensures.told tells);
      same = λ tells. unchanged_then first old (g.D.Disk.state c.read_batch.new.disk)
          (i.same (c.in_ok-octets.ensures.told tells)) (c.in_ok-octets.ensures.same tells);
      between = λ tells sound file shown.
          let before = c.in_ok-octets.ensures.told tells in
          let same = i.same before in
          let so_far = i.between before sound file shown in
          let is : octets ≡ take (length octets) (drop at file) =
          at_some c.in_ok-octets.field-0 c.in-Some.octets
          (λ (v : Vec ℕ Global). g.D.Disk.tells c.read_batch.new.disk → IsSound old → (file : List ℕ)
          → shown_now (old.entries name) ≡ Some file → v.items ≡ take (length v.items) (drop at file))
          c.in_ok-octets.ensures.open c.in-Some.is tells (same.lost ∙ sound) file
          (shown_by first old name file same shown) in
          let begins : BeginsWithBatch octets len =
          subst (λ (l : List ℕ). BeginsWithBatch l len) c.deref.ensures.value c.in-Some-batch_len.ensures.found in
          next_between file octets at len (length octets) so_far.0 so_far.1 is begins;
    }
