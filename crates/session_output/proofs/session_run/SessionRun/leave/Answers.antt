use Rattle.std.proofs.Common.{[], append-nil, subst}
use Rattle.driver.specs.Effects.{done_of}
use Rattle.session_output.specs.Runs.{HoldsFirst, outputs}
use Rattle.session_output.proofs.Stops.{holds_answer, holds_open}
use Rattle.session_output.proofs.session_run.SessionRun.leave.Goals as goal

pub returns-in-Open-clause-leaves : goal.returns-in-Open-clause-leaves
returns-in-Open-clause-leaves g c = λ first start given runs.
    c.write_held.ensures.leaves first start given (holds_open (g.S.Session.means first)
    (g.S.Session.stands first c.args.self.now.session) start _ _ c.args.self.now.room given (rw c.in-Open.is at runs))

pub returns-in-Answered-clause-leaves : goal.returns-in-Answered-clause-leaves
returns-in-Answered-clause-leaves g c = λ first start given runs.
    c.write_held-in-Answered.ensures.leaves first start given (subst (λ xs. HoldsFirst (g.S.Session.means first) start
    (outputs (g.W.Output.state c.args.self.now.output.now) (g.N.Output.state c.args.self.now.diagnostics.now))
    (done_of c.args.self.now.effects) xs) (append-nil given) (holds_answer (g.S.Session.means first) start _ _
    (g.S.Session.rest c.args.self.now.session) _ ((rw c.in-Answered.is at runs) [])))
