use Rattle.std.proofs.Common.{rules, ◌≡◌, ◌++◌, ℕ, List, drop, ap, subst, ◌∙◌}
use Rattle.archive_text.specs.declared.limits.TheConstants.{ENTRY_MAX}
use Rattle.archive_streams.specs.EntryTexts.{IsCounted}
use Rattle.archive_streams.specs.Judging.{IsJudged}
use Rattle.archive_streams.specs.Pieces.{unused}
use Rattle.archive_streams.proofs.Counting.{begins_counted}
use Rattle.archive_streams.proofs.NextEntries.{judged_fault}
use Rattle.archive_streams.proofs.reading.read_entry.Goals as goal

pub returns-in-Err-clause-fault : goal.returns-in-Err-clause-fault
returns-in-Err-clause-fault g c =
    let text = c.read_text.new.text.items in
    let rest = unused c.read_text.new.pieces in
    let start = c.in-Some.start in
    let k : IsCounted start text = search rules in
    let same : c.split_at.result.1.now ≡ drop start text =
    c.split_at.ensures.back ∙ ap (drop start) c.deref.ensures.value in
    judged_fault ENTRY_MAX (drop start text) (text ++ rest) c.in-Err.fault c.read_text.new.pieces.ends
    (begins_counted start text rest k) (subst (λ (s : List ℕ). IsJudged s c.in-Err.fault) same c.in-Err.ensures.fault)
