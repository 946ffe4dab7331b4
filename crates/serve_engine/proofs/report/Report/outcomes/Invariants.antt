use Rattle.std.proofs.Common.{take}
use Rattle.serve_engine.specs.Notes.{TellsOf, line_counts, told_in}
use Rattle.serve_engine.specs.Peers.{peer_of}
use Rattle.serve_engine.specs.Refusals.{KeepsEach, kept_in}
use Rattle.serve_engine.proofs.report.Report.outcomes.Given as goal

-- so far it was kept for each outcome, and told
abbrev pub invariant-loop-outcome : goal.invariant-loop-outcome
invariant-loop-outcome g l = record {
  kept : KeepsEach l.datagram (take l.outcome-index l.outcomes) (kept_in (g.R.Output.state) l.fn.self)
      (kept_in (g.R.Output.state) l.self);
  told : TellsOf (peer_of l.way) (line_counts (take l.outcome-index l.outcomes)) (told_in (g.N.Output.state) l.fn.self)
      (told_in (g.N.Output.state) l.self);
}
