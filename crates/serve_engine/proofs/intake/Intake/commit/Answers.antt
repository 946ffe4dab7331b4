use Rattle.std.proofs.Common.{ap, inr, ◌∙◌}
use Rattle.std.specs.Prelude.{Err, Ok, OnErr, Result}
use Rattle.syslog_collect.specs.Collectors.{store_of}
use Rattle.serve_engine.specs.Counts.{no_taken}
use Rattle.serve_engine.specs.Intakes.{AddsTaken}
use Rattle.serve_engine.proofs.intake.Intake.commit.Goals as goal

on_err : {A E : Type 0} (r : Result A E) (P : Type 0) → P → OnErr r P
on_err (Ok a) P p = tt
on_err (Err e) P p = p

pub returns-in_err-taken-clause-waits : goal.returns-in_err-taken-clause-waits
returns-in_err-taken-clause-waits g c =
    on_err c.from_residual.result (AddsTaken c.args.self.now.handed c.hand_over.new.self.handed)
    (no_taken, inr c.hand_over.ensures.handed)

pub returns-in_err-commit_held-clause-stands : goal.returns-in_err-commit_held-clause-stands
returns-in_err-commit_held-clause-stands g c k first before at =
    let h = c.hand_over.ensures.stands k first before at in
    let s = h.1 in
    let d = c.commit_held.ensures.stands h.0 first before
    (record { keeper = s.keeper; within = s.within; collector = s.collector }) in
    (d.0, d.1, λ x had. d.2 x (h.2 x had), tt)

pub returns-clause-stands : goal.returns-clause-stands
returns-clause-stands g c k first before at =
    let h = c.hand_over.ensures.stands k first before at in
    let s = h.1 in
    let d = c.commit_held.ensures.stands h.0 first before
    (record { keeper = s.keeper; within = s.within; collector = s.collector }) in
    let t = d.1 in (
      d.0,
      record { keeper = t.keeper; within = t.within; collector = t.collector },
      λ x had. d.2 x (h.2 x had),
      tt,
    )

pub returns-clause-ok : goal.returns-clause-ok
returns-clause-ok g c k first before at =
    let h = c.hand_over.ensures.stands k first before at in
    let s = h.1 in
    let d = c.in_ok-commit_held.ensures.ok h.0 first before
    (record { keeper = s.keeper; within = s.within; collector = s.collector }) in
    let t = d.1 in (
      d.0,
      record { keeper = t.keeper; within = t.within; collector = t.collector },
      λ x had. d.2 x (h.2 x had),
      record {
        fresh = ap (λ u. g.S.Store.entries (store_of u)) c.commit_held.ensures.collector ∙ c.in_ok-taken.ensures.empty;
        committed = d.3;
      },
    )
