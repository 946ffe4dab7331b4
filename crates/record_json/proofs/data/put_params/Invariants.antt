use Rattle.std.proofs.Common.{◌≤◌, length}
use Rattle.record_json.proofs.DataParts.{ParamsWritten}
use Rattle.record_json.proofs.data.put_params.Given as goal

abbrev pub invariant-loop-rest : goal.invariant-loop-rest
invariant-loop-rest l = record {
  written : ParamsWritten l.octets l.rest l.later l.fn.out.items l.out.items;
  within : length l.rest ≤ length l.octets;
}

abbrev pub decreases-loop-rest : goal.decreases-loop-rest
decreases-loop-rest l = length l.rest
