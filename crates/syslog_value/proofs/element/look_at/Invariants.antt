use Rattle.std.proofs.Common.{take}
use Rattle.std.specs.List.{All}
use Rattle.syslog_value.specs.Parts.{IsParam}
use Rattle.syslog_value.proofs.element.look_at.Given as goal

abbrev pub invariant-loop-param : goal.invariant-loop-param
invariant-loop-param l = All IsParam (take l.param-index l.params)
