use Rattle.std.proofs.Common.{ℕ, ◌<◌, slice_index}
use Rattle.syslog_value.specs.Parts.{IsNameOctet}
use Rattle.syslog_value.proofs.name.first_outside_names.Given as goal

abbrev pub invariant-loop-offset : goal.invariant-loop-offset
invariant-loop-offset l = (k : ℕ) → k < l.offset → IsNameOctet (slice_index l.octets k)
