use Rattle.std.proofs.Common.{ap}
use Rattle.socket_source.specs.Kinds.{is_addressed}
use Rattle.socket_source.proofs.Places.{streams_at}
use Rattle.socket_source.proofs.open_sockets.OpenSockets.take.Goals as goal

pub returns-in-Some-clause-own : goal.returns-in-Some-clause-own
returns-in-Some-clause-own c = rw c.some.ensures (c.in-Some.ensures.own _ _)

pub returns-in-None-admit_arrived-clause-from : goal.returns-in-None-admit_arrived-clause-from
returns-in-None-admit_arrived-clause-from c =
    streams_at _ c.deref.result.now c.args.self.now.listeners.items c.args.socket c.in-Some-Streams.field-0.now
    c.deref.ensures.value
    c.in-Some-Streams.ensures.lookup.3.1 (ap is_addressed c.in-Some-Streams.field-0-is)
