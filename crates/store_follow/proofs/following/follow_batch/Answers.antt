use Rattle.std.proofs.Common.{◌≡◌, List, ℕ, Some, drop, length, subst, take}
use Rattle.std.specs.Global.{Global}
use Rattle.std.specs.Prelude.{Vec}
use Rattle.disk.specs.Memory.{shown_now}
use Rattle.journal.specs.Journals.{IsSound}
use Rattle.store_follow.specs.Batches.{BeginsWithText, Stops}
use Rattle.store_follow.specs.declared.fault.BatchFault.{BatchFault}
use Rattle.store_follow.proofs.Octets.{at_err, at_some}
use Rattle.store_follow.proofs.Runs.{begins_whole, one_in_part, one_written, stops_none}
use Rattle.store_follow.proofs.following.follow_batch.Goals as goal

pub returns-in_err-octets-clause-stops : goal.returns-in_err-octets-clause-stops
returns-in_err-octets-clause-stops g c =
    let fault = c.in_err-octets.field-0.0 in
    let at = c.args.place.now.at in
    let taken = (g.W.Output.state c.args.output.now).taken in
    at_err c.from_residual.result fault (λ (f : BatchFault). g.D.Disk.tells c.read_batch.new.disk
    → IsSound (g.D.Disk.state c.args.disk.now) → (file : List ℕ)
    → shown_now ((g.D.Disk.state c.args.disk.now).entries c.args.name.now) ≡ Some file → Stops f file at at taken taken)
    c.from_residual.ensures.1
    (λ tells sound file shown. stops_none fault file at taken c.in_err-octets.ensures.not_write)

pub returns-in-Err-clause-stops : goal.returns-in-Err-clause-stops
returns-in-Err-clause-stops g c tells sound file shown =
    let at = c.args.place.now.at in
    let octets = c.in-Some.octets.items in
    let batch = c.in-Some-batch_in.batch in
    let text = batch.text.now in
    let is : octets ≡ take (length octets) (drop at file) =
    at_some c.in_ok-octets.field-0 c.in-Some.octets
    (λ (v : Vec ℕ Global). g.D.Disk.tells c.read_batch.new.disk → IsSound (g.D.Disk.state c.args.disk.now)
    → (file : List ℕ) → shown_now ((g.D.Disk.state c.args.disk.now).entries c.args.name.now) ≡ Some file
    → v.items ≡ take (length v.items) (drop at file)) c.in_ok-octets.ensures.open c.in-Some.is tells sound file shown
    in
    let begins : BeginsWithText octets text batch.len =
    subst (λ (l : List ℕ). BeginsWithText l text batch.len) c.deref.ensures.value c.in-Some-batch_in.ensures in
    one_in_part file text at batch.len c.in-Err.field-0.sent _ _
    (begins_whole octets (drop at file) text (length octets) batch.len is begins) c.in-Err.ensures.some_left
    c.in-Err.ensures.octets

pub returns-clause-writes : goal.returns-clause-writes
returns-clause-writes g c tells sound file shown =
    let at = c.args.place.now.at in
    let octets = c.in-Some.octets.items in
    let batch = c.in-Some-batch_in.batch in
    let text = batch.text.now in
    let is : octets ≡ take (length octets) (drop at file) =
    at_some c.in_ok-octets.field-0 c.in-Some.octets
    (λ (v : Vec ℕ Global). g.D.Disk.tells c.read_batch.new.disk → IsSound (g.D.Disk.state c.args.disk.now)
    → (file : List ℕ) → shown_now ((g.D.Disk.state c.args.disk.now).entries c.args.name.now) ≡ Some file
    → v.items ≡ take (length v.items) (drop at file)) c.in_ok-octets.ensures.open c.in-Some.is tells sound file shown
    in
    let begins : BeginsWithText octets text batch.len =
    subst (λ (l : List ℕ). BeginsWithText l text batch.len) c.deref.ensures.value c.in-Some-batch_in.ensures in
    one_written file text at batch.len _ _
    (begins_whole octets (drop at file) text (length octets) batch.len is begins) c.in-Ok.ensures.octets
