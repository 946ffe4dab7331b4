use Rattle.serve_engine.specs.Notes.{told_in}
use Rattle.serve_engine.proofs.Told.{few_made, of_let, on_true}
use Rattle.serve_engine.proofs.report.Report.write_paced.Goals as goal

pub returns-then-lets-clause-told : goal.returns-then-lets-clause-told
returns-then-lets-clause-told g c is =
    of_let c.peer.result _ (told_in (g.N.Output.state) c.args.self.now) (told_in
    (g.N.Output.state) c.write_line.new.self)
    c.lets.new.self c.peer.ensures c.lets.ensures.clock (c.lets.ensures.lets.0 c.if-lets.true)
    (on_true c.lets.result _ c.if-lets.true c.lets.ensures.spends) c.write_line.ensures.pace
    (few_made c.args.made _ _ _ is c.write_line.ensures.once)
