use Rattle.std.proofs.Common.{◌∷◌, [], length}
use Rattle.octet_language.specs.Language.{Each, Only}
use Rattle.syslog_fields.specs.Forms.{ReadsForm, params_form}
use Rattle.syslog_fields.specs.Grammar.{Param}
use Rattle.syslog_fields.proofs.Loops.{Carries}
use Rattle.syslog_reading.proofs.element.behind_params.Given as goal

abbrev pub invariant-loop-first : goal.invariant-loop-first
invariant-loop-first l = record {
  carries : Carries Param (Only (93 ∷ [])) l.octets l.rest;
  form : ReadsForm (Each Param) params_form l.is_form l.octets l.rest;
}

abbrev pub decreases-loop-first : goal.decreases-loop-first
decreases-loop-first l = length l.rest
