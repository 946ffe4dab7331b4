use Rattle.std.proofs.Common.{◌≡◌, ◌∙◌, sym, ap, get_or, inl, inr, arith}
use Rattle.std.proofs.lemmas.Bool.{cases_lt}
use Rattle.syslog_value.specs.declared.severity.Severity.TheVariants.{Emergency}
use Rattle.syslog_value.specs.declared.severity.TheConstants.Severity.{ALL}
use Rattle.syslog_value.specs.Severities.{severity_code, severity_name}
use Rattle.syslog_value.proofs.Tables.{severity_at, texts_differ}
use Rattle.syslog_value.proofs.severity.Severity.from_name.Goals as goal

pub loop-severity-preserved : goal.loop-severity-preserved
loop-severity-preserved c = λ severity below named.
    elim (cases_lt (severity_code severity) c.loop-severity.severity-index) [
      | inl earlier ↦ c.loop-severity.invariant severity earlier named
      | inr later ↦
          let here : severity_code severity ≡ c.loop-severity.severity-index = omega arith in
          let this = ap (λ i. severity_name (get_or ALL i Emergency)) (sym here)
          ∙ ap severity_name (severity_at severity) in
          texts_differ _ _ (sym c.eq.ensures ∙ c.if-eq.false) (c.name.ensures ∙ this ∙ named)
    ]
