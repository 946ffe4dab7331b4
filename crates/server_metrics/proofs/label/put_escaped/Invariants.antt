use Rattle.std.proofs.Common.{◌≡◌, ◌++◌, take}
use Rattle.server_metrics.specs.Texts.{escaped}
use Rattle.server_metrics.proofs.label.put_escaped.Given as goal

abbrev pub invariant-loop-octet : goal.invariant-loop-octet
invariant-loop-octet l = l.out.items ≡ l.fn.out.items ++ escaped (take l.octet-index l.value)
