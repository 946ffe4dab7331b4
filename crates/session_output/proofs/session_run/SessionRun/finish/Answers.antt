use Rattle.std.proofs.Common.{[], append-nil, subst}
use Rattle.driver.specs.Effects.{done_of}
use Rattle.session_output.specs.Runs.{HoldsAnswer, outputs}
use Rattle.session_output.proofs.session_run.SessionRun.finish.Goals as goal

pub returns-in-Answered-clause-ends : goal.returns-in-Answered-clause-ends
returns-in-Answered-clause-ends g c = λ first start text runs.
    c.write_answer.ensures.ends first start text (subst (λ xs. HoldsAnswer (g.S.Session.means first) start
    (outputs (g.W.Output.state c.args.self.now.output.now) (g.N.Output.state c.args.self.now.diagnostics.now))
    (done_of c.args.self.now.effects) (g.S.Session.rest c.args.self.now.session) xs) (append-nil text)
    ((rw c.in-Answered.is at runs) []))
