use Rattle.archive_text.specs.Text.{text_of}
use Rattle.collect_engine.proofs.Collected.{known_out, nothing_out}
use Rattle.collect_engine.proofs.collecting.run_collect.Goals as goal

pub returns-clause-known : goal.returns-clause-known
returns-clause-known g c =
    let made = c.collect_into.ensures in
    known_out made.0 (text_of made.4) c.collect_into.result (g.W.Output.state c.args.writer.now).failures
    (g.W.Output.state c.collect_into.new.writer).failures (g.W.Output.state c.args.writer.now).taken
    (g.W.Output.state c.collect_into.new.writer).taken made.5 made.9

pub returns-clause-nothing : goal.returns-clause-nothing
returns-clause-nothing g c is =
    let made = c.collect_into.ensures in
    nothing_out made.0 (text_of made.4) c.collect_into.result (g.W.Output.state c.args.writer.now).failures
    (g.W.Output.state c.collect_into.new.writer).failures (g.W.Output.state c.args.writer.now).taken
    (g.W.Output.state c.collect_into.new.writer).taken made.5 made.9 is
