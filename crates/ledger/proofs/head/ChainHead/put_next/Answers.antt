use Rattle.std.proofs.Common.{◌+◌, arith, rules}
use Rattle.ledger.specs.Lines.{said_of}
use Rattle.ledger.proofs.HeadLemmas.{puts_next, valid_line}
use Rattle.ledger.proofs.head.ChainHead.put_next.Goals as goal

pub returns : goal.returns
returns c =
    let number = c.args.self.now.number + 1 in
    let said = said_of c.args.entry.now in
    let valid = valid_line number c.args.time.now said (omega arith)
    (c.can_be_said.ensures.worded.0 (search rules)) c.can_be_said.ensures.fits in
    puts_next c.args.self.now c.args.time.now said c.chain_behind-chain.result c.args.text.now.items
    c.put_body.new.text.items c.deref.result.now c.put.new.text.items c.put-2.new.text.items c.put-3.new.text.items
    c.len-start.result valid (c.in_ok-put_body.ensures {u = tt}) (search rules) c.deref.ensures.value
    c.chain_behind-chain.ensures (c.in_ok-put.ensures {u = tt}) (c.in_ok-put-2.ensures {u = tt})
    (c.in_ok-put-3.ensures {u = tt})
