use Rattle.socket_source.specs.Standings.{standing, standing_of}
use Rattle.socket_source.specs.Steps.{without_open}
use Rattle.socket_source.proofs.Stays.{Becomes-then_same}
use Rattle.socket_source.proofs.sockets.Sockets.release.Goals as goal

pub returns-clause-becomes : goal.returns-clause-becomes
returns-clause-becomes g c =
    Becomes-then_same (standing c.args.self.now) (standing_of c.close.new.self) (standing c.retry_listeners.new.self)
    (without_open c.args.conn (standing c.args.self.now).live) c.close.ensures c.retry_listeners.ensures.standing
