use Rattle.std.proofs.Common.{arith}
use Rattle.serve_engine.proofs.Rows.{paid_row}
use Rattle.serve_engine.proofs.pace.Pace.tick.Goals as goal

pub returns : goal.returns
returns c = record {
  clock = omega (arith, c.saturating_add-self.ensures, c.from.ensures);
  peers = λ peer. paid_row _ _ _ peer (omega (arith, c.saturating_add-self.ensures));
  all = omega (arith, c.saturating_add-self.ensures);
}
