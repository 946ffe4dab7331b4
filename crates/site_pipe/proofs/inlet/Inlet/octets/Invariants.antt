use Rattle.std.proofs.Common.{◌≤◌, ◌-◌, vec_len}
use Rattle.site_pipe.proofs.inlet.Inlet.octets.Given as goal

abbrev pub invariant-reading : goal.invariant-reading
invariant-reading g l = vec_len l.text ≤ l.count

abbrev pub decreases-reading : goal.decreases-reading
decreases-reading g l = l.count - vec_len l.text
