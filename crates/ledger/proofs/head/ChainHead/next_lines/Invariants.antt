use Rattle.std.proofs.Common.{map, take}
use Rattle.ledger.specs.Lines.{said_of}
use Rattle.ledger.specs.Writing.{AreNextLines}
use Rattle.ledger.proofs.head.ChainHead.next_lines.Given as goal

abbrev pub invariant-entries : goal.invariant-entries
invariant-entries l = AreNextLines l.self (map said_of (take l.entry-index l.entries)) l.text.items l.behind
