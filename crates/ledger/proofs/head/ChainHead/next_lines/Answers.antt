use Rattle.ledger.proofs.WritingLemmas.{not_all, one_more}
use Rattle.ledger.proofs.head.ChainHead.next_lines.Goals as goal

pub entries-preserved : goal.entries-preserved
entries-preserved c =
    one_more c.args.self.now c.entries.behind c.in-Some.next c.args.time.now c.args.entries.now c.entries.entry-index _
    c.entries.text.items c.put_next.new.text.items c.entries-test.true c.entries.invariant
    (rw c.in-Some.is at c.in_ok-next.ensures)

pub returns-in-None : goal.returns-in-None
returns-in-None c =
    not_all c.args.self.now c.entries.behind c.args.time.now c.args.entries.now c.entries.entry-index _
    c.entries.text.items c.entries-test.true c.entries.invariant (rw c.in-None.is at c.in_ok-next.ensures).1
