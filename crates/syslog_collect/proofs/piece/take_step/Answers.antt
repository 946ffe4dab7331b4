use Rattle.std.proofs.Common.{◌≡◌, ◌≤◌, List, ◌++◌, length, inl, inr, ap, ◌∙◌, arith, refl}
use Rattle.std.specs.Prelude.{◌⊎◌, Bool, Err, false, IsTrue}
use Rattle.std.proofs.lemmas.Bool.{both_ways}
use Rattle.syslog_collect.specs.Answers.{IsBadCount}
use Rattle.syslog_collect.specs.Outcomes.{outcomes_of}
use Rattle.syslog_collect.specs.declared.outcome.Outcome.{Outcome}
use Rattle.syslog_collect.proofs.Between.{step_whole}
use Rattle.syslog_collect.proofs.Hearing.{hears_ended, hears_nothing, hears_refused, hears_step}
use Rattle.syslog_collect.proofs.Pieces.{goes_on, logs_nothing, logs_of, refused, step_ended, step_on, used_within}
use Rattle.syslog_collect.proofs.Stopping.{step_cause, step_goes_on, step_no_room, taken_with_room, unless_room}
use Rattle.syslog_collect.proofs.piece.take_step.Goals as goal
use Rattle.syslog_collect.proofs.piece.take_step.Goals.{then-is_bad_count-via-then-is_bad_count}
use Rattle.syslog_collect.proofs.piece.take_step.Goals.{then-is_bad_count-via-else-is_bad_count+then-advance-rest}

not_both : (b : Bool) → IsTrue b → b ≡ false → ⊥
not_both b t f = both_ways b f t

pub returns-then-is_err-clause-moves : goal.returns-then-is_err-clause-moves
returns-then-is_err-clause-moves g c s d at = logs_nothing c.args.reading _ _ _ _ s d c.reserve.ensures.items

pub returns-in-Err-clause-within : goal.returns-in-Err-clause-within
returns-in-Err-clause-within g c = rw c.used_of-used.ensures
    (used_within c.args.rest.now c.in-Err.fault c.in-Err.ensures.within)

pub returns-in-Err-clause-moves : goal.returns-in-Err-clause-moves
returns-in-Err-clause-moves g c s d at =
    refused c.args.reading _ _ _ _ c.args.rest.now _ _ c.in-Err.fault c.used_of-used.result s d c.used_of-used.ensures
    c.reserve.ensures.items (c.in-Err.ensures.drops s d at)

pub returns-then-is_bad_count-clause-accepted : goal.returns-then-is_bad_count-clause-accepted
returns-then-is_bad_count-clause-accepted g c s d at =
    let o = c.in-Ok.advance.outcome in
    let rest = c.args.rest.now in
    let ends : IsBadCount o ⊎ (length rest ≤ c.in-Ok.advance.used) = elim c.then-is_bad_count.branch [
      | then-is_bad_count-via-then-is_bad_count w ↦ inl (c.is_bad_count.ensures.0 w.if-is_bad_count.true)
      | then-is_bad_count-via-else-is_bad_count+then-advance-rest w ↦ inr (omega (arith, w.if-advance-rest.true))
    ] in
    step_ended c.args.reading c.args.connection.now c.advance_connection.new.connection
    (g.S.Store.entries c.args.store.now) (g.S.Store.entries c.advance_connection.new.store) rest
    c.args.log.now.items c.note.new.log.items
    c.in-Ok.advance.used o s d (c.note.ensures ∙ ap (λ (u : List Outcome). u ++ outcomes_of o) c.reserve.ensures.items)
    ends (c.in-Ok.ensures.drops s d at)

pub returns-then-is_bad_count-clause-moves : goal.returns-then-is_bad_count-clause-moves
returns-then-is_bad_count-clause-moves g c s d at =
    logs_of c.args.reading _ _ _ _ _ _ _ s d (returns-then-is_bad_count-clause-accepted g c s d at)

pub returns-clause-progress : goal.returns-clause-progress
returns-clause-progress g c =
    let stops = c.in-Ok.ensures.progress in
    goes_on c.args.connection.now.scanner c.in-Ok.advance.used (length c.args.rest.now)
    (IsBadCount c.in-Ok.advance.outcome) stops
    (λ bad. not_both c.is_bad_count.result (c.is_bad_count.ensures.1 bad) c.if-is_bad_count.false) (omega arith)

pub returns-clause-accepted : goal.returns-clause-accepted
returns-clause-accepted g c s d at =
    let o = c.in-Ok.advance.outcome in
    let rest = c.args.rest.now in
    step_on c.args.reading c.args.connection.now c.advance_connection.new.connection
    (g.S.Store.entries c.args.store.now)
    (g.S.Store.entries c.advance_connection.new.store) rest c.args.log.now.items c.note.new.log.items
    c.in-Ok.advance.used o s d (c.note.ensures ∙ ap (λ (u : List Outcome). u ++ outcomes_of o) c.reserve.ensures.items)
    (λ bad. not_both c.is_bad_count.result (c.is_bad_count.ensures.1 bad) c.if-is_bad_count.false)
    (c.in-Ok.ensures.drops s d at)

pub returns-clause-moves : goal.returns-clause-moves
returns-clause-moves g c s d at = logs_of c.args.reading _ _ _ _ _ _ _ s d (returns-clause-accepted g c s d at)

pub returns-then-is_err-clause-cause : goal.returns-then-is_err-clause-cause
returns-then-is_err-clause-cause g c s d at = inl (refl, refl, refl)

pub returns-in-Err-clause-cause : goal.returns-in-Err-clause-cause
returns-in-Err-clause-cause g c s d at = elim c.in-Err.ensures.waits [
  | inl room ↦
      step_no_room c.args.reading c.args.rest.now c.used_of-used.result c.args.connection.now
      c.advance_connection.new.connection c.in-Err.fault s c.used_of-used.ensures room
  | inr waits ↦
      step_cause c.args.reading c.args.rest.now c.used_of-used.result c.args.connection.now
      c.advance_connection.new.connection _ _ c.in-Err.fault s c.used_of-used.ensures
      (returns-in-Err-clause-within g c)
      (unless_room c.args.connection.now c.advance_connection.new.connection (Err c.in-Err.fault) waits
      (c.in-Err.ensures.cause s d at)) waits c.in-Err.ensures.unchanged
      (unless_room c.args.connection.now c.advance_connection.new.connection (Err c.in-Err.fault) waits
      (c.in-Err.ensures.taken s d at))
]

pub returns-clause-goes_on : goal.returns-clause-goes_on
returns-clause-goes_on g c s d at =
    step_goes_on c.args.reading c.args.connection.now c.advance_connection.new.connection
    (g.S.Store.entries c.args.store.now) (g.S.Store.entries c.advance_connection.new.store) c.args.rest.now
    c.in-Ok.advance.used c.in-Ok.advance.outcome s d _
    (λ bad. not_both c.is_bad_count.result (c.is_bad_count.ensures.1 bad) c.if-is_bad_count.false)
    (taken_with_room c.args.connection.now c.advance_connection.new.connection c.in-Ok.advance (c.in-Ok.ensures.taken s d at)).0 (c.in-Ok.ensures.drops s d at)

pub returns-clause-whole : goal.returns-clause-whole
returns-clause-whole g c s d at =
    step_whole c.args.rest.now c.in-Ok.advance.used c.in-Ok.advance.outcome s
    (λ bad. not_both c.is_bad_count.result (c.is_bad_count.ensures.1 bad) c.if-is_bad_count.false) (omega arith)
    (taken_with_room c.args.connection.now c.advance_connection.new.connection c.in-Ok.advance (c.in-Ok.ensures.taken s d at)).1

pub returns-then-is_err-clause-hears : goal.returns-then-is_err-clause-hears
returns-then-is_err-clause-hears g c s d at =
    hears_nothing (g.O.Observer.observes) _ _ _ s d _ _ c.reserve.ensures.items refl at

pub returns-in-Err-clause-hears : goal.returns-in-Err-clause-hears
returns-in-Err-clause-hears g c s d at =
    hears_refused (g.O.Observer.observes) c.args.connection.now _ c.args.rest.now _ _ c.in-Err.fault c.used_of-used.result
    s d _ _ c.used_of-used.ensures c.reserve.ensures.items at (c.in-Err.ensures.hears s d at)

pub returns-then-is_bad_count-clause-hears : goal.returns-then-is_bad_count-clause-hears
returns-then-is_bad_count-clause-hears g c s d at =
    let o = c.in-Ok.advance.outcome in
    let rest = c.args.rest.now in
    let ends : IsBadCount o ⊎ (length rest ≤ c.in-Ok.advance.used) = elim c.then-is_bad_count.branch [
      | then-is_bad_count-via-then-is_bad_count w ↦ inl (c.is_bad_count.ensures.0 w.if-is_bad_count.true)
      | then-is_bad_count-via-else-is_bad_count+then-advance-rest w ↦ inr (omega (arith, w.if-advance-rest.true))
    ] in
    hears_ended (g.O.Observer.observes) c.advance_connection.new.connection rest c.args.log.now.items
    c.note.new.log.items c.in-Ok.advance.used o s d _ _
    (c.note.ensures ∙ ap (λ (u : List Outcome). u ++ outcomes_of o) c.reserve.ensures.items) ends
    (c.in-Ok.ensures.hears s d at)

pub returns-clause-hears : goal.returns-clause-hears
returns-clause-hears g c s d at =
    let o = c.in-Ok.advance.outcome in
    hears_step (g.O.Observer.observes) c.advance_connection.new.connection c.args.rest.now c.args.log.now.items
    c.note.new.log.items c.in-Ok.advance.used o s d _ _
    (c.note.ensures ∙ ap (λ (u : List Outcome). u ++ outcomes_of o) c.reserve.ensures.items)
    (λ bad. not_both c.is_bad_count.result (c.is_bad_count.ensures.1 bad) c.if-is_bad_count.false)
    (c.in-Ok.ensures.hears s d at)
