use Rattle.std.proofs.Common.{◌≡◌, take}
use Rattle.syslog_value.proofs.element.Element.copy.Given as goal

abbrev pub invariant-loop-param : goal.invariant-loop-param
invariant-loop-param l = l.params.items ≡ take l.param-index l.param-items
