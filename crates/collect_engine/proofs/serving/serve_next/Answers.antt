use Rattle.std.proofs.Common.{[], List, refl, sym, subst, inl, inr}
use Rattle.std.proofs.lemmas.List.{append-nil}
use Rattle.syslog_collect.specs.History.{AcceptedEvent}
use Rattle.syslog_collect.specs.Standing.{Stands}
use Rattle.collect_engine.specs.Steps.{Failed, Finished, given_of}
use Rattle.collect_engine.proofs.Serves.{appends_none, gave_next, same_flag}
use Rattle.collect_engine.proofs.serving.serve_next.Goals as goal

pub returns-in-Failed-clause-served : goal.returns-in-Failed-clause-served
returns-in-Failed-clause-served g c first before was = (
  Failed,
  [],
  [],
  gave_next _ _ _ _ (rw c.in-Failed.is at c.next-step.ensures),
  subst (λ (es : List AcceptedEvent). Stands c.args.collector.now.reading c.args.collector.now.connections
      (g.S.Store.entries c.args.collector.now.store) first es) (sym (append-nil before)) was,
  appends_none (g.N.Output.state c.args.notes.now).taken,
  inl (refl, refl, refl, refl),
  tt,
)

pub returns-in-Finished-clause-served : goal.returns-in-Finished-clause-served
returns-in-Finished-clause-served g c first before was = (
  Finished,
  [],
  [],
  gave_next _ _ _ _ (rw c.in-Finished.is at c.next-step.ensures),
  subst (λ (es : List AcceptedEvent). Stands c.args.collector.now.reading c.args.collector.now.connections
      (g.S.Store.entries c.args.collector.now.store) first es) (sym (append-nil before)) was,
  appends_none (g.N.Output.state c.args.notes.now).taken,
  (refl, λ d. refl, refl, refl, refl),
  same_flag c.args.lines.now.refused,
)

pub returns-in-Ok-clause-served : goal.returns-in-Ok-clause-served
returns-in-Ok-clause-served g c first before was =
    let made = c.in-Ok.ensures.served first before was in (
      given_of c.next-step.result c.next-step.new.buf,
      made.1,
      made.2,
      gave_next _ _ _ _ c.next-step.ensures,
      made.4,
      made.5,
      (made.0, made.3, made.6),
      made.7,
    )

pub returns-in-Err-clause-served : goal.returns-in-Err-clause-served
returns-in-Err-clause-served g c first before was =
    let made = c.in-Err.ensures.served first before was in (
      given_of c.next-step.result c.next-step.new.buf,
      made.1,
      made.2,
      gave_next _ _ _ _ c.next-step.ensures,
      made.4,
      made.5,
      inr (made.0, made.3, made.6),
      tt,
    )
