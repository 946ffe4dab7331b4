use Rattle.ledger.specs.Lines.{said_of}
use Rattle.ledger.proofs.HeadLemmas.{next_is}
use Rattle.ledger.proofs.head.ChainHead.next_line.Goals as goal

pub returns-in-Some : goal.returns-in-Some
returns-in-Some c =
    next_is c.args.self.now c.args.time.now (said_of c.args.entry.now) c.new-line.result.items c.put_next.new.text.items
    c.in-Some.field-0 c.new-line.ensures.items (rw c.in-Some.is at c.in_ok-put_next.ensures)
