use Rattle.serve_engine.proofs.Told.{turn_of}
use Rattle.serve_engine.proofs.server.Server.over_rate.Goals as goal

pub returns-clause-notes : goal.returns-clause-notes
returns-clause-notes g c = turn_of _ 1 _ _ c.over_rate.ensures.told
