use Rattle.std.proofs.Common.{◌≡◌, ◌+◌, List, ℕ, take, ◌++◌, ◌∷◌, [], sym, ap, ◌∙◌}
use Rattle.std.proofs.lemmas.List.{take_more}
use Rattle.archive_proof.specs.Asking.{asked_entries, asked_entry}
use Rattle.archive_proof.specs.declared.asked.AskedRecord.{AskedRecord}
use Rattle.archive_proof.proofs.Answerings.{next_answered}
use Rattle.archive_proof.proofs.Askings.{entries_pushed}
use Rattle.archive_proof.proofs.answering.confirm_all.Goals as goal

pub loop-sought-preserved : goal.loop-sought-preserved
loop-sought-preserved c =
    let all : List AskedRecord = c.args.asked.now in
    let i : ℕ = c.loop-sought.sought-index in
    let x : AskedRecord = c.sought-item.result in
    let here : take (i + 1) all ≡ take i all ++ x ∷ [] =
    take_more all i x c.loop-sought-test.true ∙ ap (λ (y : AskedRecord). take i all ++ y ∷ []) (sym c.sought-item.is) in
    let entries : asked_entries (take (i + 1) all) ≡ asked_entries (take i all) ++ asked_entry x ∷ [] =
    ap (λ (l : List AskedRecord). asked_entries l) here ∙ entries_pushed (take i all) x in
    rw (entries, c.in_ok-push.ensures.items)
    (next_answered c.args.head.now (asked_entries (take i all)) c.args.text.now c.loop-sought.answers.items _
    (asked_entry x) c.in_ok-answer.answer _ c.loop-sought.invariant c.in_ok-answer.ensures)
