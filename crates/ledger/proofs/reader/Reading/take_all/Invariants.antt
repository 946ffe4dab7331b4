use Rattle.std.proofs.Common.{take}
use Rattle.ledger.specs.Readings.{Follows}
use Rattle.ledger.proofs.reader.Reading.take_all.Given as goal

abbrev pub invariant-loop-octet : goal.invariant-loop-octet
invariant-loop-octet l = Follows l.initial.self l.self (take l.octet-index l.octets)
