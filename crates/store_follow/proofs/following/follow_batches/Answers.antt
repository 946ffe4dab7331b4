use Rattle.std.proofs.Common.{◌≡◌, ◌∙◌, List, ℕ, Option, Some, subst}
use Rattle.std.specs.Prelude.{IsSome}
use Rattle.disk.specs.Files.{File}
use Rattle.disk.specs.Memory.{shown_now}
use Rattle.journal.specs.Journals.{IsSound}
use Rattle.store_follow.specs.Batches.{Stops}
use Rattle.store_follow.specs.declared.fault.BatchFault.{BatchFault}
use Rattle.store_follow.proofs.Octets.{at_err, not_both, shown_by, shown_same, unchanged_then}
use Rattle.store_follow.proofs.Runs.{stops_then, writes_then}
use Rattle.store_follow.proofs.following.follow_batches.Goals as goal

pub returns-in_err-follow_batch-clause-stops : goal.returns-in_err-follow_batch-clause-stops
returns-in_err-follow_batch-clause-stops g c =
    let fault = c.in_err-follow_batch.field-0.0 in
    let i = c.batches.invariant in
    let first = g.D.Disk.state c.args.disk.now in
    let old = g.D.Disk.state c.batches.disk in
    let name = c.args.name.now in
    let begun = (g.W.Output.state c.args.output.now).taken in
    let taken = (g.W.Output.state c.batches.output).taken in
    let now = (g.W.Output.state c.follow_batch.new.output).taken in
    at_err c.from_residual.result fault (λ (f : BatchFault). g.D.Disk.tells c.follow_batch.new.disk → IsSound first
    → (file : List ℕ) → shown_now (first.entries name) ≡ Some file
    → Stops f file c.args.place.now.at c.follow_batch.new.place.at begun now) c.from_residual.ensures.1
    (λ tells sound file shown.
    let before = c.in_err-follow_batch.ensures.told tells in
    let same = i.same before in
    stops_then fault file c.args.place.now.at c.batches.place.at c.follow_batch.new.place.at begun taken now
    (i.writes before sound file shown)
    (c.in_err-follow_batch.ensures.stops tells (same.lost ∙ sound) file (shown_by first old name file same shown)))

pub returns-then-not-branch-clause-writes : goal.returns-then-not-branch-clause-writes
returns-then-not-branch-clause-writes g c tells sound file shown =
    let i = c.batches.invariant in
    let before = c.in_ok-follow_batch.ensures.told tells in
    let same = i.same before in
    writes_then file c.args.place.now.at c.batches.place.at c.follow_batch.new.place.at
    (g.W.Output.state c.args.output.now).taken (g.W.Output.state c.batches.output).taken
    (g.W.Output.state c.follow_batch.new.output).taken (i.writes before sound file shown)
    (c.in_ok-follow_batch.ensures.writes tells (same.lost ∙ sound) file
    (shown_by (g.D.Disk.state c.args.disk.now) (g.D.Disk.state c.batches.disk) c.args.name.now file same shown))

pub returns-then-saturating_sub-ge-OCTETS_MAX-clause-writes : goal.returns-then-saturating_sub-ge-OCTETS_MAX-clause-writes
returns-then-saturating_sub-ge-OCTETS_MAX-clause-writes g c tells sound file shown =
    let i = c.batches.invariant in
    let before = c.in_ok-follow_batch.ensures.told tells in
    let same = i.same before in
    writes_then file c.args.place.now.at c.batches.place.at c.follow_batch.new.place.at
    (g.W.Output.state c.args.output.now).taken (g.W.Output.state c.batches.output).taken
    (g.W.Output.state c.follow_batch.new.output).taken (i.writes before sound file shown)
    (c.in_ok-follow_batch.ensures.writes tells (same.lost ∙ sound) file
    (shown_by (g.D.Disk.state c.args.disk.now) (g.D.Disk.state c.batches.disk) c.args.name.now file same shown))

pub batches-preserved : goal.batches-preserved
batches-preserved g c =
    let i = c.batches.invariant in
    let first = g.D.Disk.state c.args.disk.now in
    let old = g.D.Disk.state c.batches.disk in
    let name = c.args.name.now in
    let told = c.in_ok-follow_batch.ensures.told in
    let now_is = λ (tells : g.D.Disk.tells c.follow_batch.new.disk).
    shown_same first old name (i.same (told tells)) in
    record {
      told = λ tells. i.told (told tells);
      same = λ tells. unchanged_then first old (g.D.Disk.state c.follow_batch.new.disk) (i.same (told tells))
          (c.in_ok-follow_batch.ensures.same tells);
      number = c.in_ok-follow_batch.ensures.number ∙ i.number;
      there = λ some tells sound. subst (λ (o : Option File). IsSome o) (now_is tells)
          (c.in_ok-follow_batch.ensures.there tells ((i.same (told tells)).lost ∙ sound));
      absent = λ tells sound none. absurd (not_both (first.entries name).now
          (subst (λ (o : Option File). IsSome o) (now_is tells)
          (c.in_ok-follow_batch.ensures.there tells ((i.same (told tells)).lost ∙ sound))) none);
      writes = λ tells sound file shown.
          let before = told tells in
          let same = i.same before in
          writes_then file c.args.place.now.at c.batches.place.at c.follow_batch.new.place.at
          (g.W.Output.state c.args.output.now).taken (g.W.Output.state c.batches.output).taken
          (g.W.Output.state c.follow_batch.new.output).taken (i.writes before sound file shown)
          (c.in_ok-follow_batch.ensures.writes tells (same.lost ∙ sound) file (shown_by first old name file same shown));
    }
