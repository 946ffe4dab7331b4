use Rattle.serve_engine.proofs.Told.{few_lines, little_owed, run_paced}
use Rattle.serve_engine.proofs.law.notes_are_few.Goals as goal

pub returns-clause-few : goal.returns-clause-few
returns-clause-few c = few_lines

pub returns-clause-owes : goal.returns-clause-owes
returns-clause-owes c = little_owed

pub returns-clause-paced : goal.returns-clause-paced
returns-clause-paced c = run_paced
