use Rattle.serve_engine.proofs.Told.{turn_of}
use Rattle.serve_engine.proofs.server.Server.not_allowed.Goals as goal

pub returns-clause-notes : goal.returns-clause-notes
returns-clause-notes g c = turn_of _ 1 _ _ c.not_allowed.ensures.told
