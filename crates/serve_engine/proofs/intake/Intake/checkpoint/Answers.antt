use Rattle.serve_engine.proofs.intake.Intake.checkpoint.Goals as goal

pub returns-clause-stands : goal.returns-clause-stands
returns-clause-stands g c k first before at = record {
  keeper = c.checkpoint.ensures.kept k at.keeper;
  within = at.within;
  collector = at.collector;
}
