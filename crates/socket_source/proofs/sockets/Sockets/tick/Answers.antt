use Rattle.socket_source.specs.Standings.{standing}
use Rattle.socket_source.proofs.Stays.{IsLawful-tick}
use Rattle.socket_source.proofs.sockets.Sockets.tick.Goals as goal

pub returns-clause-lawful : goal.returns-clause-lawful
returns-clause-lawful g c =
    IsLawful-tick (standing c.args.self.now) (standing c.retry_listeners.new.self) c.retry_listeners.ensures.standing
