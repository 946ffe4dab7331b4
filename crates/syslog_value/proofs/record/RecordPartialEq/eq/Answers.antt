use Rattle.std.proofs.Common.{◌≡◌, ◌∙◌, sym, rules}
use Rattle.syslog_value.specs.Equality.{record_eq, words_eq}
use Rattle.syslog_value.specs.EqualityLaws.{record_decides}
use Rattle.syslog_value.proofs.record.RecordPartialEq.eq.Goals as goal

pub returns-then-eq-7-clause-same : goal.returns-then-eq-7-clause-same
unfolding record_eq words_eq
returns-then-eq-7-clause-same c =
    let is : c.eq-then-eq-7.result ≡ record_eq c.args.self.now c.args.other.now = search rules in
    let decides = record_decides c.args.self.now c.args.other.now in
    (λ yes. decides.0 (sym is ∙ yes), λ same. is ∙ decides.1 same)
