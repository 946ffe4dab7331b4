use Rattle.std.proofs.Common.{[], List, ℕ, subst, arith}
use Rattle.std.proofs.lemmas.List.{length-map}
use Rattle.archive_proof.specs.Asking.{AreAskedIn, asked_entries, asked_entry}
use Rattle.archive_proof.specs.declared.asked.AskedRecord.{AskedRecord}
use Rattle.archive_proof.proofs.Askings.{asked_are_entries}
use Rattle.proof_engine.proofs.asking.read_asked.Goals as goal

pub returns-in-Ok-read_records-clause-outcome : goal.returns-in-Ok-read_records-clause-outcome
returns-in-Ok-read_records-clause-outcome g c =
    let text : List ℕ = c.in-Ok.text.items in
    let asked : List AskedRecord = c.in-Ok-read_records.asked.items in
    let are : AreAskedIn text (asked_entries asked) [] =
    subst (λ (t : List ℕ). AreAskedIn t (asked_entries asked) []) c.as_slice.ensures.value
    c.in-Ok-read_records.ensures.ok in
    record {
      text = text;
      read = c.in-Ok.ensures.outcome;
      asked = are;
      entries = asked_are_entries text (asked_entries asked) [] are;
      few = omega (arith, length-map asked asked_entry, c.in-Ok-read_records.ensures.few);
    }
