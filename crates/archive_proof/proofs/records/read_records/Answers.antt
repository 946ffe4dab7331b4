use Rattle.std.proofs.Common.{◌≤◌, List, length, sym, subst, arith}
use Rattle.archive_text.specs.Entries.{Entry}
use Rattle.archive_proof.specs.Asking.{AreAskedIn, asked_entries}
use Rattle.archive_proof.proofs.Askings.{asked_more, asked_shorter}
use Rattle.archive_proof.proofs.records.read_records.Goals as goal

pub overflow_sub-text : goal.overflow_sub-text
overflow_sub-text c =
    asked_shorter c.args.text.now (asked_entries c.records.asked.items) c.records.rest.now c.records.invariant.asked

pub push_first-requires-clause-fits : goal.push_first-requires-clause-fits
push_first-requires-clause-fits c =
    let short : length c.records.rest.now ≤ length c.args.text.now =
    asked_shorter c.args.text.now (asked_entries c.records.asked.items) c.records.rest.now c.records.invariant.asked in
    omega (arith, short)

pub records-preserved : goal.records-preserved
records-preserved c =
    let one = c.in-Ok.ensures.ok in
    record {
      asked = subst (λ (l : List Entry). AreAskedIn c.args.text.now l c.in-Ok.behind.now) (sym one.2)
          (asked_more c.args.text.now (asked_entries c.records.asked.items) one.0 c.records.rest.now c.in-Ok.behind.now
          c.records.invariant.asked one.1);
      few = c.in-Ok.ensures.few;
    }
