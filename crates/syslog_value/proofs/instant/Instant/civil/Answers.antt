use Rattle.std.proofs.Common.{◌≡◌, pos, ◌∙◌, sym, rules}
use Rattle.std.proofs.lemmas.Int.{ints}
use Rattle.syslog_value.specs.Instants.{instant_of}
use Rattle.syslog_value.proofs.CivilTimes.{civil-injective}
use Rattle.syslog_value.proofs.instant.Instant.civil.Goals as goal

pub returns-clause-only : goal.returns-clause-only
returns-clause-only c = λ other valid names.
    let value : instant_of c.civil_at.result (pos 0) ≡ c.args.self = search (rules, ints) in
    civil-injective other c.civil_at.result valid c.civil_at.ensures.valid (names ∙ sym value)
