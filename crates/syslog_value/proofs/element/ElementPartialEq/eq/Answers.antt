use Rattle.std.proofs.Common.{◌≡◌, ◌∙◌, sym, rules}
use Rattle.syslog_value.specs.Equality.{element_eq}
use Rattle.syslog_value.specs.EqualityLaws.{element_decides}
use Rattle.syslog_value.proofs.element.ElementPartialEq.eq.Goals as goal

pub returns-then-eq-clause-same : goal.returns-then-eq-clause-same
unfolding element_eq
returns-then-eq-clause-same c =
    let is : c.eq-then-eq.result ≡ element_eq c.args.self.now c.args.other.now = search rules in
    let decides = element_decides c.args.self.now c.args.other.now in
    (λ yes. decides.0 (sym is ∙ yes), λ same. is ∙ decides.1 same)
