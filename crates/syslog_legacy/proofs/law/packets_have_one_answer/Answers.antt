use Rattle.syslog_legacy.specs.Readings.{Legacy}
use Rattle.syslog_legacy.specs.Views.{legacy_view_parts}
use Rattle.syslog_legacy.proofs.OneAnswer.{legacy_one, some_answer}
use Rattle.syslog_legacy.proofs.law.packets_have_one_answer.Goals as goal

pub returns-clause-some : goal.returns-clause-some
returns-clause-some c =
    some_answer c.legacy_view-seen.result (λ answer. Legacy c.args.clock.now answer c.args.octets.now) legacy_view_parts
    (λ fault. fault.offset) c.legacy_view-seen.ensures

pub returns-clause-one : goal.returns-clause-one
returns-clause-one c = legacy_one
