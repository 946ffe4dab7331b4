use Rattle.std.specs.Prelude.{None}
use Rattle.socket_source.specs.Lines.{line, line_of}
use Rattle.socket_source.specs.Standings.{standing}
use Rattle.socket_source.specs.Waiting.{number_of}
use Rattle.socket_source.proofs.Orders.{turn_of}
use Rattle.socket_source.proofs.Runs.{serves_of, turns_kept, turns_of}
use Rattle.socket_source.proofs.sockets.Sockets.take_ready.Goals as goal

pub returns-in_default-clause-turns : goal.returns-in_default-clause-turns
returns-in_default-clause-turns g c =
    turns_kept _ c.ask.result (line c.args.self.now) (line c.ask.new.self) c.ask.ensures.order c.ask.ensures.unserved

pub returns-in-None-clause-turns : goal.returns-in-None-clause-turns
returns-in-None-clause-turns g c =
    turns_kept (standing c.args.self.now).listeners None (line c.args.self.now)
    (line_of c.next.new.self) c.in-None.ensures.chooses.1 tt

pub returns-in-Some-next-clause-turns : goal.returns-in-Some-next-clause-turns
returns-in-Some-next-clause-turns g c =
    turns_of _ (number_of c.in-Some-next.chosen) c.take.result (line c.args.self.now) (line c.take.new.self)
    (turn_of c.in-Some-next.chosen (line c.args.self.now) (line_of c.next.new.self) (line c.take.new.self)
    c.in-Some-next.ensures.chooses c.take.ensures.comes_back) c.take.ensures.own

pub returns-in-Some-next-clause-serves : goal.returns-in-Some-next-clause-serves
returns-in-Some-next-clause-serves g c some =
    serves_of (number_of c.in-Some-next.chosen) (line c.args.self.now) (line c.take.new.self)
    (turn_of c.in-Some-next.chosen (line c.args.self.now) (line_of c.next.new.self) (line c.take.new.self)
    c.in-Some-next.ensures.chooses c.take.ensures.comes_back)
