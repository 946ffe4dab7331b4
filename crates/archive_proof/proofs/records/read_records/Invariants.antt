use Rattle.std.proofs.Common.{◌≤◌, length}
use Rattle.archive_proof.specs.Asking.{AreAskedIn, asked_entries}
use Rattle.archive_proof.specs.declared.records.TheConstants.{ASKED_MAX}
use Rattle.archive_proof.proofs.records.read_records.Given as goal

abbrev pub invariant-records : goal.invariant-records
invariant-records l = record {
  asked : AreAskedIn l.text (asked_entries l.asked.items) l.rest;
  few : length l.asked.items ≤ ASKED_MAX;
}

abbrev pub decreases-records : goal.decreases-records
decreases-records l = length l.rest
