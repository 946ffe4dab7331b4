use Rattle.std.proofs.Common.{refl, arith}
use Rattle.archive_proof.proofs.Makings.{placed_fresh}
use Rattle.archive_proof.proofs.prover.Prover.new.Goals as goal

pub returns-clause-begun : goal.returns-clause-begun
returns-clause-begun c = record {
  asked = refl;
  archive = record { ascending = tt; entries = tt; fits = tt };
  taken = c.new.ensures;
  placed = placed_fresh c.new.result c.args.asked.items c.in_ok-searches.searches.items c.in_ok-paths.paths.items
      (omega (arith, c.in_ok-searches.ensures.number, c.len-2.ensures)) c.in_ok-searches.ensures.each
      (omega (arith, c.in_ok-paths.ensures, c.len-3.ensures));
}
