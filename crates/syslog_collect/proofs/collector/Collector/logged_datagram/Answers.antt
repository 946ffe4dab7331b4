use Rattle.std.proofs.Common.{[], ◌∷◌, refl, sym}
use Rattle.std.proofs.lemmas.List.{append-nil}
use Rattle.syslog_collect.proofs.collector.Collector.logged_datagram.Goals as goal

pub returns-in-Ok-clause-logged : goal.returns-in-Ok-clause-logged
returns-in-Ok-clause-logged g c = (
  c.in-Ok.outcome ∷ [],
  c.note.ensures,
  (c.in-Ok.outcome, refl, c.in-Ok.ensures.outcome),
)

pub returns-in-Err-clause-logged : goal.returns-in-Err-clause-logged
returns-in-Err-clause-logged g c = ([], sym (append-nil c.args.log.now.items), (refl, c.in-Err.ensures.err))

pub returns-in-Err-clause-cause : goal.returns-in-Err-clause-cause
returns-in-Err-clause-cause g c = (refl, refl, c.in-Err.ensures.spelled)

pub returns-in-Ok-clause-goes_on : goal.returns-in-Ok-clause-goes_on
returns-in-Ok-clause-goes_on g c = c.in-Ok.ensures.goes_on

pub returns-in-Err-clause-goes_on : goal.returns-in-Err-clause-goes_on
returns-in-Err-clause-goes_on g c = c.in-Err.ensures.goes_on
