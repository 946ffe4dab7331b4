use Rattle.std.proofs.Common.{List, ℕ, subst}
use Rattle.std.proofs.lemmas.List.{take_rest}
use Rattle.journal.specs.Batches.{BeginsWithBatch, IsClosed}
use Rattle.journal.proofs.Readings.{more_text, ends}
use Rattle.store_backup.proofs.journals.end_of_batches.Goals as goal

pub loop-len-preserved : goal.loop-len-preserved
loop-len-preserved c =
    let next = subst (λ (l : List ℕ). BeginsWithBatch l c.in-Some.len) (take_rest c.args.file.now c.loop-len.end)
    c.in-Some.ensures.found in
    let more = more_text c.args.file.now c.loop-len.end c.in-Some.len c.loop-len.invariant.within
    c.loop-len.invariant.text next in
    record { within = more.0; text = more.1 }

pub returns-clause-ends : goal.returns-clause-ends
returns-clause-ends c =
    ends c.args.file.now c.loop-len.end c.loop-len.invariant.within c.loop-len.invariant.text
    (subst IsClosed (take_rest c.args.file.now c.loop-len.end) c.in_default.ensures.none)
