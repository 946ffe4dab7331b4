use Rattle.std.proofs.Common.{subst}
use Rattle.archive_text.specs.Entries.{Entry}
use Rattle.archive_text.specs.EntryViews.{entry_of}
use Rattle.archive_proof.specs.Answering.{Says}
use Rattle.archive_proof.specs.declared.proof.Proof.{Proof}
use Rattle.archive_proof.proofs.answering.answer_next.Goals as goal

pub returns-in-Some-2 : goal.returns-in-Some-2
returns-in-Some-2 c =
    let p : Proof = c.in-Some-2.proof in
    let begins = rw c.in-Some-2.is at c.in_ok-proof.ensures.begins in
    let only = rw c.in-Some-2.is at c.in_ok-proof.ensures.only in
    let says : Says c.args.head.now (entry_of c.entry.result) p c.confirm.result = record {
      present = c.confirm.ensures.present;
      absent = c.confirm.ensures.absent;
      is_in = c.confirm.ensures.is_in;
      is_not_in = c.confirm.ensures.is_not_in;
    } in
    rw c.in-Some.is
    (p, begins, only, subst (λ (e : Entry). Says c.args.head.now e p c.confirm.result) c.entry.ensures says)
