use Rattle.read_engine.proofs.AsWithout.{whole_store}
use Rattle.read_engine.proofs.read.read_records.Goals as goal

pub returns-then-options-clause-whole : goal.returns-then-options-clause-whole
returns-then-options-clause-whole g c = λ partial t whole plain. (
  c.range_of-range.result,
  c.range_of-range.ensures,
  whole_store c.args.options.now (g.F.Folder.tells c.read_partial.new.folder)
      (g.F.Folder.has_failed c.read_partial.new.folder) (g.F.Folder.files c.args.folder.now) c.range_of-range.result
      (g.W.Output.state c.args.output.now) (g.W.Output.state c.read_partial.new.output)
      (g.N.Output.state c.args.diagnostics.now) (g.N.Output.state c.read_partial.new.diagnostics)
      c.read_partial.result t whole plain c.read_partial.ensures.ran,
)
