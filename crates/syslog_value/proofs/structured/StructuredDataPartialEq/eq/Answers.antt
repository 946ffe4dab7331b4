use Rattle.std.proofs.Common.{◌≡◌, ◌∙◌, sym, rules}
use Rattle.std.specs.Cmp.Lexicographic.{pointwise}
use Rattle.syslog_value.specs.Equality.{element_eq}
use Rattle.syslog_value.specs.EqualityLaws.{elements_decide}
use Rattle.syslog_value.proofs.structured.StructuredDataPartialEq.eq.Goals as goal

pub returns-clause-same : goal.returns-clause-same
returns-clause-same c =
    let is : c.eq.result ≡ pointwise element_eq c.args.self.now c.args.other.now = search rules in
    let decides = elements_decide c.args.self.now c.args.other.now in
    (λ yes. decides.0 (sym is ∙ yes), λ same. is ∙ decides.1 same)
