use Rattle.std.proofs.Common.{length}
use Rattle.octet_language.specs.Language.{AnyOf, Each}
use Rattle.syslog_fields.specs.Grammar.{Param}
use Rattle.syslog_reading.proofs.OwnedParts.{ParamsRead}
use Rattle.syslog_reading.proofs.owned.to_params.Given as goal

abbrev pub invariant-loop-first : goal.invariant-loop-first
invariant-loop-first l = ParamsRead l.octets l.rest l.params.items × ∥ AnyOf (Each Param) l.rest ∥₁

abbrev pub decreases-loop-first : goal.decreases-loop-first
decreases-loop-first l = length l.rest
